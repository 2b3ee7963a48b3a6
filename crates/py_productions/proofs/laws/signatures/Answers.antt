use Rattle.py_ast.specs.Grammar.{expr}
use Rattle.py_productions.proofs.ParameterLaws.{signature-out, signature-into}
use Rattle.py_productions.proofs.laws.signatures.Goals as goal

pub returns : goal.returns
returns c = λ room x parts. (signature-out (expr room) x parts, signature-into (expr room) x parts)
