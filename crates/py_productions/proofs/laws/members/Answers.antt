use Rattle.py_productions.proofs.MemberLaws.{member-out, member-into}
use Rattle.py_productions.proofs.laws.members.Goals as goal

pub returns : goal.returns
returns c = λ room x s. (member-out room x s, member-into room x s)
