use Rattle.std.proofs.Common.{◌∷◌, [], ◌∙◌, ap}
use Rattle.phrases.specs.Sets.{has}
use Rattle.py_ast.specs.Kinds.{class}
use Rattle.py_ast.specs.Grammar.{expr_first, comma_item, comma_items, goes_past, pair, Whole, nested}
use Rattle.py_expr.proofs.atom.further_pairs_by.Goals as goal

pub returns-clause-read : goal.returns-clause-read
unfolding comma_items
returns-clause-read g c =
    c.series.ensures.read class (λ s. (77 ∷ [])) (λ s. (comma_item expr_first (pair (nested c.args.room Whole))).read) (λ s i. goes_past (λ p. tt {0}) i) (λ s k b h. h.2 ∙ ap (λ v. has (77 ∷ []) (class v)) h.1) (λ s ts r h. (h.0, h.1.0))
