use Rattle.rows.proofs.CoreSteps.{closed_resets}
use Rattle.rows.proofs.cores.closed_sets_reset.Goals as goal

pub returns : goal.returns
returns c = closed_resets
