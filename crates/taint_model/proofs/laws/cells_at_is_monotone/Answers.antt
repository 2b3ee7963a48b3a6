use Rattle.taint_model.proofs.PutReads.{cells-mono}
use Rattle.taint_model.proofs.laws.cells_at_is_monotone.Goals as goal

pub returns : goal.returns
returns c = cells-mono
