use Rattle.std.proofs.Common.{◌∷◌, [], ◌∙◌, ap}
use Rattle.phrases.specs.Sets.{has}
use Rattle.py_ast.specs.Kinds.{class}
use Rattle.py_ast.specs.Grammar.{past}
use Rattle.py_ast.specs.Statements.{name}
use Rattle.py_simple.proofs.imports.dot_names_of.Goals as goal

pub returns-clause-read : goal.returns-clause-read
returns-clause-read c = c.many.ensures.read class (79 ∷ []) (past 79 name).read (λ k b h. h.says.met ∙ ap (λ v. has (79 ∷ []) (class v)) h.shows) (λ ts r h. h.0)
