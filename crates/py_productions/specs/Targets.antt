-- Productions of what may be assigned to (Language Reference, 7.2).
--   single: NAME | primary "." NAME | primary "[" exprs "]"
--   names: NAME ("," NAME)+ [","]
--   target: single | names | "(" names ")"
-- An annotation takes the first two of single. A name that is an operand isn't `super`. The "(" and the "[" open a nesting.
use Rattle.std.specs.Prelude.{◌≡◌, ℕ, cond, List, [], ◌∷◌, ◌++◌, map, Option}
use Rattle.py_literals.specs.declared.place.Pos.{Pos}
use Rattle.phrases.specs.Spelling.{One, Opener}
use Rattle.py_lexer.specs.declared.token.Kind.TheVariants as kinds
use Rattle.py_lexer.specs.declared.token.Token.{Token}
use Rattle.py_ast.specs.Kinds.{code, mark_of, name_code}
use Rattle.py_ast.specs.Tokens.{name_codes, name_of}
use Rattle.py_ast.specs.Trees.{leaf, behind, OpenForm, open_form, postfix_of}
use Rattle.py_ast.specs.Grammar.{first_of, attribute_of, subscript_at, primary, Whole, nested}
use Rattle.py_ast.specs.Files.{name_expr}
use Rattle.py_ast.specs.declared.tree.Expr.{Expr, out-Expr}
use Rattle.py_ast.specs.declared.tree.Form.TheOpen.{Form-F as open_forms}
use Rattle.py_ast.specs.declared.tree.Form.TheVariants as forms
use Rattle.py_ast.specs.declared.tree.NameAt.{NameAt}
use Rattle.py_ast.specs.declared.tree.Step.{Step}
use Rattle.py_productions.specs.Rules.{Rule, Word, Row, values, Listed}
use Rattle.py_productions.specs.Expressions.{Inner, Expressions}

-- ---- names

-- NAME, wherever it may be `super`
abbrev pub AnyName : Rule NameAt
AnyName = One (name_of name_codes)

-- NAME, where it is an operand
abbrev pub Operand : Rule NameAt
Operand = One (name_of (name_code ∷ []))

-- names, of which P is NAME: the first, the comma behind it, and the others
pub record Names (P : List Token → NameAt → Type 0) (x : List Token) (first : NameAt) (comma : Pos) (others : List NameAt) : Type 0 where
  pub second : NameAt
  pub further : List (Pos × NameAt)
  pub end : Option Pos
  pub listed : Listed kinds.Comma P x first ((comma, second) ∷ further) end
  pub all : others ≡ second ∷ values further

-- all of them in a list
abbrev pub AllNames : (List Token → NameAt → Type 0) → List Token → List NameAt → Type 0
AllNames P x [] = ⊥
AllNames P x (n ∷ ns) = (comma : Pos) × Names P x n comma ns

-- ---- primaries

-- primary, with room for so many nestings
abbrev pub Primary : ℕ → Rule Expr
Primary room = (primary room (nested room Whole)).Spells

-- one step more: the steps behind an atom are one list
abbrev pub lengthened : Expr → Step → OpenForm → Expr
lengthened e s (open_forms.Postfix atom steps) = postfix_of atom (steps ++ s ∷ [])
lengthened e s _ = postfix_of e (s ∷ [])

-- where no parentheses stand round it
abbrev pub with_step : Expr → Step → Expr
with_step e s = cond (out-Expr e).enclosed (postfix_of e (s ∷ [])) (lengthened e s (open_form e))

abbrev pub attribute_step : Pos → NameAt → Step
attribute_step dot n = attribute_of n

-- ---- targets

-- NAME
pub record IsName (x : List Token) (target : Expr) : Type 0 where
  pub name : NameAt
  pub spelled : Operand x name
  pub tree : target ≡ name_expr name

-- primary "." NAME
abbrev pub IsAttribute : ℕ → Rule Expr
IsAttribute room = Row (Primary room) (Row (Word kinds.Dot) AnyName attribute_step) with_step

-- primary "[" exprs "]"
abbrev pub IsSubscript : ℕ → Rule Expr
IsSubscript room = Row (Primary room) (Row (Opener room (mark_of (code kinds.LeftBracket))) (Row (Expressions (Inner room)) (Word kinds.RightBracket) first_of) subscript_at) with_step

-- names: a tuple, which the first comma makes
pub record IsNames (x : List Token) (target : Expr) : Type 0 where
  pub first : NameAt
  pub comma : Pos
  pub others : List NameAt
  pub spelled : Names Operand x first comma others
  pub tree : target ≡ behind comma (name_expr first) (forms.Tuple (map name_expr (first ∷ others)))

abbrev pub enclosed_names : Pos → List NameAt → Expr
enclosed_names at ns = leaf at (forms.Tuple (map name_expr ns))

-- "(" names ")": a tuple, which the "(" makes
abbrev pub AreEnclosed : ℕ → Rule Expr
AreEnclosed room = Row (Opener room (mark_of (code kinds.LeftParen))) (Row (AllNames Operand) (Word kinds.RightParen) first_of) enclosed_names

-- what may be annotated
pub data Annotable (room : ℕ) (x : List Token) (target : Expr) : Type 0 where
  plain_name : IsName x target → Annotable room x target
  plain_attribute : IsAttribute room x target → Annotable room x target

-- what an augmented assignment may change
pub data Single (room : ℕ) (x : List Token) (target : Expr) : Type 0 where
  name : IsName x target → Single room x target
  attribute : IsAttribute room x target → Single room x target
  subscript : IsSubscript room x target → Single room x target

-- what may be assigned to
pub data Target (room : ℕ) (x : List Token) (target : Expr) : Type 0 where
  single : Single room x target → Target room x target
  names : IsNames x target → Target room x target
  enclosed : AreEnclosed room x target → Target room x target
