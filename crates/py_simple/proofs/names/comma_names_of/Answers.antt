use Rattle.std.proofs.Common.{◌∷◌, [], ◌∙◌, ap}
use Rattle.phrases.specs.Sets.{has}
use Rattle.py_ast.specs.Kinds.{class}
use Rattle.py_ast.specs.Tokens.{name_codes}
use Rattle.py_ast.specs.Grammar.{comma_item, comma_items, goes_past}
use Rattle.py_ast.specs.Statements.{name}
use Rattle.py_simple.proofs.names.comma_names_of.Goals as goal

pub returns-clause-read : goal.returns-clause-read
unfolding comma_items
returns-clause-read c =
    c.series.ensures.read class (λ s. 77 ∷ []) (λ s. (comma_item name_codes name).read) (λ s i. goes_past (λ n. tt {0}) i) (λ s k b h. h.2 ∙ ap (λ v. has (77 ∷ []) (class v)) h.1) (λ s ts r h. (h.0, h.1.0))
