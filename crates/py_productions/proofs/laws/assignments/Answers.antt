use Rattle.py_productions.proofs.BegunLaws.{begun-is}
use Rattle.py_productions.proofs.laws.assignments.Goals as goal

pub returns : goal.returns
returns c = begun-is
