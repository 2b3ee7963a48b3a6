use Rattle.py_literals.proofs.Longest.{longest_number}
use Rattle.py_literals.proofs.number.longest_number.Goals as goal

pub returns : goal.returns
returns c = longest_number
