-- Productions of lists of expressions (Language Reference, 6.15).
--   exprs: expr ("," expr)* [","]
use Rattle.std.specs.Prelude.{◌≡◌, ℕ, List, [], ◌∷◌, Option, Some, None}
use Rattle.py_literals.specs.declared.place.Pos.{Pos}
use Rattle.py_lexer.specs.declared.token.Kind.TheVariants as kinds
use Rattle.py_lexer.specs.declared.token.Token.{Token}
use Rattle.py_ast.specs.Trees.{behind}
use Rattle.py_ast.specs.Grammar.{Whole, nested, expr}
use Rattle.py_ast.specs.declared.tree.Expr.{Expr}
use Rattle.py_ast.specs.declared.tree.Form.TheVariants as forms
use Rattle.py_productions.specs.Rules.{Rule, values, Listed}

-- expr, with room for so many nestings
abbrev pub Expression : ℕ → Rule Expr
Expression room = (expr room).Spells

-- an expression that stands in a bracket of such an expression
abbrev pub Inner : ℕ → Rule Expr
Inner room = (nested room Whole).Spells

-- one expression stands for itself; a comma behind the first makes a tuple
abbrev pub listed_tree : Expr → List (Pos × Expr) → Option Pos → Expr
listed_tree e [] None = e
listed_tree e [] (Some at) = behind at e (forms.Tuple (e ∷ []))
listed_tree e ((at, f) ∷ others) end = behind at e (forms.Tuple (e ∷ f ∷ values others))

-- exprs, of which P is expr
pub record Expressions (P : List Token → Expr → Type 0) (x : List Token) (e : Expr) : Type 0 where
  pub first : Expr
  pub others : List (Pos × Expr)
  pub end : Option Pos
  pub listed : Listed kinds.Comma P x first others end
  pub tree : e ≡ listed_tree first others end
