use Rattle.py_productions.proofs.NameLaws.{loop-out, loop-into}
use Rattle.py_productions.proofs.laws.loops.Goals as goal

pub returns : goal.returns
returns c = λ x ns. (loop-out x ns, loop-into x ns)
