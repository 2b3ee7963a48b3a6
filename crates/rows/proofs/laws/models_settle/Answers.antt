use Rattle.rows.proofs.Edits.{models_settle}
use Rattle.rows.proofs.laws.models_settle.Goals as goal

pub returns : goal.returns
returns c = models_settle
