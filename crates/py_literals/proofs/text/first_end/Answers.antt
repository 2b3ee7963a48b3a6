use Rattle.py_literals.proofs.Bodies.{first_end}
use Rattle.py_literals.proofs.text.first_end.Goals as goal

pub returns : goal.returns
returns c = first_end
