use Rattle.py_ast.specs.Literals.{literal}
use Rattle.py_productions.proofs.ParameterLaws.{arguments-out, arguments-into, literals-out, literals-into}
use Rattle.py_productions.proofs.laws.argument_lists.Goals as goal

pub returns-clause-of_calls : goal.returns-clause-of_calls
returns-clause-of_calls c = λ room x list. (arguments-out room x list, arguments-into room x list)

pub returns-clause-of_decorators : goal.returns-clause-of_decorators
returns-clause-of_decorators c = λ room x list. (literals-out (literal room) x list, literals-into (literal room) x list)
