use Rattle.pysa_syntax.proofs.OneAnswer.{one_text}
use Rattle.pysa_syntax.proofs.laws.one_answer.Goals as goal

pub returns : goal.returns
returns c = one_text
