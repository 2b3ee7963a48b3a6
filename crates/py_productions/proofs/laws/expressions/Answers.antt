use Rattle.py_productions.proofs.ExpressionLaws.{expressions}
use Rattle.py_productions.proofs.laws.expressions.Goals as goal

pub returns : goal.returns
returns c = expressions
