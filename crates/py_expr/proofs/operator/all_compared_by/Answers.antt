use Rattle.std.proofs.Common.{◌∙◌, ap}
use Rattle.phrases.specs.Sets.{has}
use Rattle.py_ast.specs.Kinds.{class}
use Rattle.py_ast.specs.Grammar.{comparison_first, compared, binary, Factor, shaped}
use Rattle.py_expr.proofs.operator.all_compared_by.Goals as goal

pub returns-clause-read : goal.returns-clause-read
returns-clause-read g c =
    c.many.ensures.read class comparison_first (compared (binary 6 (shaped Factor c.args.room))).read (λ k b h. h.says.met ∙ ap (λ v. has comparison_first (class v)) h.shows) (λ ts r h. h.0)
