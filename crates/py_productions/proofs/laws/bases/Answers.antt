use Rattle.py_productions.proofs.MemberLaws.{base-out, base-into}
use Rattle.py_productions.proofs.laws.bases.Goals as goal

pub returns : goal.returns
returns c = λ x b. (base-out x b, base-into x b)
