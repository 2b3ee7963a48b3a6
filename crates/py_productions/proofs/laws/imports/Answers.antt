use Rattle.py_productions.proofs.NameLaws.{imported-out, imported-into}
use Rattle.py_productions.proofs.laws.imports.Goals as goal

pub returns : goal.returns
returns c = λ x ns. (imported-out x ns, imported-into x ns)
