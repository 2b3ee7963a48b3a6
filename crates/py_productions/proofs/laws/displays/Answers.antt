use Rattle.py_ast.specs.Grammar.{expr}
use Rattle.py_productions.proofs.DisplayLaws.{list-out, list-into, dictionary-out, dictionary-into, parentheses-out, parentheses-into}
use Rattle.py_productions.proofs.laws.displays.Goals as goal

pub returns-clause-of_lists : goal.returns-clause-of_lists
returns-clause-of_lists c = λ room inner x e. (list-out room (expr inner) x e, list-into room (expr inner) x e)

pub returns-clause-of_dictionaries : goal.returns-clause-of_dictionaries
returns-clause-of_dictionaries c = λ room inner x e. (dictionary-out room (expr inner) x e, dictionary-into room (expr inner) x e)

pub returns-clause-of_parentheses : goal.returns-clause-of_parentheses
returns-clause-of_parentheses c = λ room inner x e. (parentheses-out room (expr inner) x e, parentheses-into room (expr inner) x e)
