use Rattle.std.proofs.Common.{◌∷◌, [], ◌∙◌, ap}
use Rattle.phrases.specs.Sets.{has}
use Rattle.py_ast.specs.Kinds.{class}
use Rattle.py_ast.specs.Trees.{has_keyword}
use Rattle.py_ast.specs.Grammar.{comma_item, comma_items, goes_past}
use Rattle.py_ast.specs.Literals.{literal, literal_argument, literal_argument_first}
use Rattle.py_simple.proofs.decorators.comma_arguments_of.Goals as goal

pub returns-clause-read : goal.returns-clause-read
unfolding comma_items
returns-clause-read c =
    c.series.ensures.read class (λ s. 77 ∷ []) (λ s. (comma_item (literal_argument_first s) (literal_argument (literal 100) s)).read) (λ s i. goes_past has_keyword i) (λ s k b h. h.2 ∙ ap (λ v. has (77 ∷ []) (class v)) h.1) (λ s ts r h. (h.0, h.1.0))
