use Rattle.py_judgement.proofs.OneAnswer.{one_answer}
use Rattle.py_judgement.proofs.laws.one_answer.Goals as goal

pub returns : goal.returns
returns c = one_answer
