use Rattle.std.proofs.Common.{◌∷◌, [], ◌∙◌, ap}
use Rattle.phrases.specs.Sets.{has}
use Rattle.phrases.specs.Phrases.{token}
use Rattle.py_ast.specs.Kinds.{class}
use Rattle.py_ast.specs.Tokens.{text_of}
use Rattle.py_simple.proofs.literals.all_texts_of.Goals as goal

pub returns-clause-read : goal.returns-clause-read
returns-clause-read c = c.many.ensures.read class (4 ∷ []) (token text_of).read (λ k b h. h.says.met ∙ ap (λ v. has (4 ∷ []) (class v)) h.shows) (λ ts r h. h.0)
