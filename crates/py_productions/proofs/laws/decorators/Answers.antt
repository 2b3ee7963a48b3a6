use Rattle.py_ast.specs.Literals.{literal}
use Rattle.py_productions.proofs.DecoratorLaws.{whole-out, whole-into}
use Rattle.py_productions.proofs.laws.decorators.Goals as goal

pub returns : goal.returns
returns c = λ room x d. (whole-out (literal room) x d, whole-into (literal room) x d)
