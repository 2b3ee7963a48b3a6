use Rattle.py_expr.proofs.Fronts.{meant}
use Rattle.py_expr.proofs.reading.front.Goals as goal

pub returns : goal.returns
returns c = meant _ _ c.expr_of.ensures.read
