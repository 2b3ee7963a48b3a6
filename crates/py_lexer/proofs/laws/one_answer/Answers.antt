use Rattle.py_lexer.proofs.OneAnswer.{has_one_answer}
use Rattle.py_lexer.proofs.laws.one_answer.Goals as goal

pub returns : goal.returns
returns c = has_one_answer
