use Rattle.std.proofs.Common.{◌∷◌, [], ◌∙◌, ap}
use Rattle.phrases.specs.Sets.{has}
use Rattle.py_ast.specs.Kinds.{class}
use Rattle.py_ast.specs.Grammar.{joined, conjunction, Inversion, shaped}
use Rattle.py_expr.proofs.logic.alternatives_by.Goals as goal

pub returns-clause-read : goal.returns-clause-read
returns-clause-read g c =
    c.many.ensures.read class (42 ∷ []) (joined 42 (conjunction (shaped Inversion c.args.room))).read (λ k b h. h.says.met ∙ ap (λ v. has (42 ∷ []) (class v)) h.shows) (λ ts r h. h.0)
