use Rattle.std.proofs.Common.{◌∷◌, [], ◌∙◌, ap}
use Rattle.phrases.specs.Sets.{has}
use Rattle.py_ast.specs.Kinds.{class}
use Rattle.py_ast.specs.Tokens.{name_codes}
use Rattle.py_ast.specs.Grammar.{comma_item, comma_items, goes_past, expr}
use Rattle.py_ast.specs.Statements.{parameter, has_default}
use Rattle.py_simple.proofs.names.comma_parameters_of.Goals as goal

pub returns-clause-read : goal.returns-clause-read
unfolding comma_items
returns-clause-read c =
    c.series.ensures.read class (λ s. 77 ∷ []) (λ s. (comma_item name_codes (parameter (expr 100) s)).read) (λ s i. goes_past has_default i) (λ s k b h. h.2 ∙ ap (λ v. has (77 ∷ []) (class v)) h.1) (λ s ts r h. (h.0, h.1.0))
