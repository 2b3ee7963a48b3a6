use Rattle.py_productions.proofs.DisplayLaws.{call-out, call-into}
use Rattle.py_productions.proofs.laws.calls.Goals as goal

pub returns : goal.returns
returns c = λ room inner x s. (call-out room inner x s, call-into room inner x s)
