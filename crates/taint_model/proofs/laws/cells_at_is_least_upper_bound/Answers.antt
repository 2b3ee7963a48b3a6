use Rattle.taint_model.proofs.PutReads.{cells_above, cells_least}
use Rattle.taint_model.proofs.laws.cells_at_is_least_upper_bound.Goals as goal

pub returns-clause-above : goal.returns-clause-above
returns-clause-above c = cells_above

pub returns-clause-least : goal.returns-clause-least
returns-clause-least c = cells_least
