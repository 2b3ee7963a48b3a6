use Rattle.py_expr.proofs.Nestings.{nested_next}
use Rattle.py_expr.proofs.expr.exprs_of.Goals as goal

pub returns-clause-read : goal.returns-clause-read
returns-clause-read c = rw (nested_next c.args.room) at c.exprs_by.ensures.read
