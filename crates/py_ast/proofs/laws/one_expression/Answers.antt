use Rattle.py_ast.proofs.Expressions.{one-expr}
use Rattle.py_ast.proofs.laws.one_expression.Goals as goal

pub returns : goal.returns
returns c = one-expr
