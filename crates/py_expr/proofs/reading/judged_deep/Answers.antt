use Rattle.py_expr.proofs.Fronts.{deep_is}
use Rattle.py_expr.proofs.reading.judged_deep.Goals as goal

pub returns : goal.returns
returns c = λ at. deep_is _ _ _ c.requires.deep c.place_at.ensures
