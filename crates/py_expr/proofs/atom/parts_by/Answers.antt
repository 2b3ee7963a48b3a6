use Rattle.std.proofs.Common.{◌∙◌, ap}
use Rattle.phrases.specs.Sets.{has}
use Rattle.py_ast.specs.Kinds.{class}
use Rattle.py_ast.specs.Grammar.{part_first, part, Whole, nested}
use Rattle.py_expr.proofs.atom.parts_by.Goals as goal

pub returns-clause-read : goal.returns-clause-read
returns-clause-read g c =
    c.many.ensures.read class part_first (part c.args.room (nested c.args.room Whole)).read (λ k b h. h.says.met ∙ ap (λ v. has part_first (class v)) h.shows) (λ ts r h. h.0)
