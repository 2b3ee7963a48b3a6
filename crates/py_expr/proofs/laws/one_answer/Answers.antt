use Rattle.py_expr.proofs.OneAnswer.{one_answer}
use Rattle.py_expr.proofs.laws.one_answer.Goals as goal

pub returns : goal.returns
returns c = one_answer
