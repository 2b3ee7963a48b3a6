use Rattle.taint_model.proofs.PutReads.{cells-join}
use Rattle.taint_model.proofs.laws.cells_at_distributes_over_join.Goals as goal

pub returns : goal.returns
returns c = cells-join
