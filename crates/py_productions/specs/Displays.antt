-- Productions of displays, parentheses and calls (Language Reference, 6.2.3 to 6.2.7 and 6.3.4).
--   "(" [argument ("," argument)* [","]] ")"
--   "(" [expr ("," expr)* [","]] ")"
--   "[" [expr ("," expr)* [","]] "]"      "{" [pair ("," pair)* [","]] "}"      pair: expr ":" expr
-- The first bracket opens a nesting. In parentheses a comma makes a tuple, and without one they stand round an expression.
use Rattle.std.specs.Prelude.{◌≡◌, ℕ, List, [], ◌∷◌, Option, Some, None}
use Rattle.py_literals.specs.declared.place.Pos.{Pos}
use Rattle.phrases.specs.Spelling.{Opener}
use Rattle.py_lexer.specs.declared.token.Kind.{Kind}
use Rattle.py_lexer.specs.declared.token.Kind.TheVariants as kinds
use Rattle.py_lexer.specs.declared.token.Token.{Token}
use Rattle.py_ast.specs.Kinds.{code, mark_of}
use Rattle.py_ast.specs.Trees.{leaf, enclose, pair_of, step_of}
use Rattle.py_ast.specs.Grammar.{both, first_of, second}
use Rattle.py_ast.specs.Statements.{all_of}
use Rattle.py_ast.specs.declared.tree.Argument.{Argument}
use Rattle.py_ast.specs.declared.tree.Expr.{Expr}
use Rattle.py_ast.specs.declared.tree.Form.TheVariants as forms
use Rattle.py_ast.specs.declared.tree.Pair.{Pair}
use Rattle.py_ast.specs.declared.tree.Step.{Step}
use Rattle.py_ast.specs.declared.tree.StepForm.TheVariants as steps
use Rattle.py_productions.specs.Rules.{Rule, Word, Row, values, Listed, Items}
use Rattle.py_productions.specs.Parameters.{Arguments}

-- [P] between two brackets, of which the first opens a nesting, with room for so many
pub data Bracketed {A : Type 0} (room : ℕ) (left right : Kind) (P : List Token → A → Type 0) (x : List Token) (at : Pos) (o : Option A) : Type 0 where
  bare : Row (Opener room (mark_of (code left))) (Word right) first_of x at → o ≡ None → Bracketed room left right P x at o
  around : (a : A) → Row (Opener room (mark_of (code left))) (Row P (Word right) first_of) both x (at, a) → o ≡ Some a → Bracketed room left right P x at o

pub record IsList (room : ℕ) (P : List Token → Expr → Type 0) (x : List Token) (e : Expr) : Type 0 where
  pub at : Pos
  pub inside : Option (List Expr)
  pub spelled : Bracketed room kinds.LeftBracket kinds.RightBracket (Items kinds.Comma P) x at inside
  pub tree : e ≡ leaf at (forms.List (all_of inside))

-- expr ":" expr
abbrev pub IsPair : Rule Expr → Rule Pair
IsPair P = Row P (Row (Word kinds.Colon) P second) pair_of

pub record IsDictionary (room : ℕ) (P : List Token → Expr → Type 0) (x : List Token) (e : Expr) : Type 0 where
  pub at : Pos
  pub inside : Option (List Pair)
  pub spelled : Bracketed room kinds.LeftBrace kinds.RightBrace (Items kinds.Comma (IsPair P)) x at inside
  pub tree : e ≡ leaf at (forms.Dictionary (all_of inside))

-- the items of a list, with its commas
abbrev pub WithCommas : (List Token → Expr → Type 0) → List Token → Expr × List (Pos × Expr) × Option Pos → Type 0
WithCommas P x list = Listed kinds.Comma P x list.0 list.1 list.2

abbrev pub enclosed_tree : Pos → Expr → List (Pos × Expr) → Option Pos → Expr
enclosed_tree at e [] None = enclose at e
enclosed_tree at e [] (Some comma) = leaf at (forms.Tuple (e ∷ []))
enclosed_tree at e ((comma, f) ∷ others) end = leaf at (forms.Tuple (e ∷ f ∷ values others))

abbrev pub parentheses_tree : Pos → Option (Expr × List (Pos × Expr) × Option Pos) → Expr
parentheses_tree at None = leaf at (forms.Tuple [])
parentheses_tree at (Some list) = enclosed_tree at list.0 list.1 list.2

pub record InParentheses (room : ℕ) (P : List Token → Expr → Type 0) (x : List Token) (e : Expr) : Type 0 where
  pub at : Pos
  pub inside : Option (Expr × List (Pos × Expr) × Option Pos)
  pub spelled : Bracketed room kinds.LeftParen kinds.RightParen (WithCommas P) x at inside
  pub tree : e ≡ parentheses_tree at inside

-- what is done to a primary that is called
pub record IsCall (room : ℕ) (P : List Token → Expr → Type 0) (x : List Token) (s : Step) : Type 0 where
  pub at : Pos
  pub inside : Option (List Argument)
  pub spelled : Bracketed room kinds.LeftParen kinds.RightParen (Arguments P) x at inside
  pub tree : s ≡ step_of at (steps.Call (all_of inside))
