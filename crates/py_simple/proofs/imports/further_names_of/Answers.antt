use Rattle.std.proofs.Common.{◌∷◌, [], ◌∙◌, ap}
use Rattle.phrases.specs.Sets.{has}
use Rattle.py_ast.specs.Kinds.{class}
use Rattle.py_ast.specs.Grammar.{past}
use Rattle.py_ast.specs.Statements.{imported_name}
use Rattle.py_simple.proofs.imports.further_names_of.Goals as goal

pub returns-clause-read : goal.returns-clause-read
returns-clause-read c = c.many.ensures.read class (77 ∷ []) (past 77 imported_name).read (λ k b h. h.says.met ∙ ap (λ v. has (77 ∷ []) (class v)) h.shows) (λ ts r h. h.0)
