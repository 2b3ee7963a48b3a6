use Rattle.std.proofs.Common.{◌∷◌, [], ◌∙◌, ap}
use Rattle.phrases.specs.Sets.{has}
use Rattle.py_ast.specs.Kinds.{class}
use Rattle.py_ast.specs.Literals.{literal}
use Rattle.py_ast.specs.Files.{decorator}
use Rattle.py_simple.proofs.decorators.further_decorators_of.Goals as goal

pub returns-clause-read : goal.returns-clause-read
returns-clause-read c = c.many.ensures.read class (57 ∷ []) (decorator (literal 100)).read (λ k b h. h.says.met ∙ ap (λ v. has (57 ∷ []) (class v)) h.shows) (λ ts r h. h.0)
