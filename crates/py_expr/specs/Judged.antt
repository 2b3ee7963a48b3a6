-- What is answered of the tokens from a place on: the expression there, or the fault, and where it stands.
use Rattle.std.specs.Prelude.{◌≡◌, ℕ, ◌+◌, ◌-◌, List, [], ◌∷◌, ◌++◌, length, drop, Some, None, Result, Ok, Err}
use Rattle.std.specs.Borrow.{Bor}
use Rattle.phrases.specs.Verdict.{Longest, StopsAt, TooDeepAt}
use Rattle.phrases.specs.declared.fault.Fault.TheVariants as faults
use Rattle.phrases.specs.declared.fault.Stop.{Stop}
use Rattle.phrases.specs.declared.fault.Stop.TheVariants as reasons
use Rattle.py_literals.specs.declared.place.Pos.{Pos}
use Rattle.py_lexer.specs.declared.form.Form.{Form}
use Rattle.py_lexer.specs.declared.token.Token.{Token}
use Rattle.py_forms.specs.declared.telling.ToldForm.{ToldForm}
use Rattle.py_forms.specs.Roles.{roles_of, back_of}
use Rattle.py_forms.specs.Forms.{told}
use Rattle.py_ast.specs.declared.tree.Expr.{Expr}
use Rattle.py_ast.specs.Grammar.{expr}
use Rattle.py_expr.specs.declared.error.SyntaxError.{SyntaxError}
use Rattle.py_expr.specs.declared.error.SyntaxError.TheVariants.{Syntax, Unsupported, TooDeep, Memory}

-- so many nestings may be open, one in another
abbrev pub deepest : ℕ
deepest = 100

-- what an answer on the front of ts says: the longest run with which an expression begins, or the token that opens nesting 101
abbrev pub Meant : List Token → Result (Expr × Bor (List Token)) (Stop Token) → Type 0
Meant ts (Ok x) = Longest expr deepest ts x.0 x.1.now
Meant ts (Err (reasons.Fault faults.Syntax rest)) = StopsAt expr deepest ts rest.now
Meant ts (Err (reasons.Fault faults.TooDeep rest)) = TooDeepAt expr deepest ts rest.now
Meant ts (Err reasons.Memory) = Unit {0}

-- the token at this index of a list stands at this place
abbrev pub StandsAt : List Token → ℕ → Pos → Type 0
StandsAt ts i place = (t : Token) × (after : List Token) × (drop i ts ≡ t ∷ after) × (t.at ≡ place)

-- the first token of rest, or the last of all where none is left
abbrev pub IsStop : List Token → List Token → Pos → Type 0
IsStop ts [] place = StandsAt ts (length ts - 1) place
IsStop ts (t ∷ rest) place = t.at ≡ place

-- no form is told behind the run
abbrev pub IsPlain : List Token → List Token → Type 0
IsPlain run rest = told (back_of run) (roles_of rest) ≡ None

-- the form that is told behind the run, and the place of its first token
pub record IsTold (run rest : List Token) (form : Form) (place : Pos) : Type 0 where
  pub found : ToldForm
  pub tells : told (back_of run) (roles_of rest) ≡ Some found
  pub same : found.form ≡ form
  pub stands : StandsAt (run ++ rest) found.place place

-- the longest run at the front of ts with which an expression begins: it is one, or it isn't one yet
pub data IsFront (ts run rest : List Token) : Type 0 where
  whole : (e : Expr) (l : Longest expr deepest ts e rest) → l.run ≡ run → IsFront ts run rest
  unfinished : (s : StopsAt expr deepest ts rest) → s.run ≡ run → IsFront ts run rest

-- the longest run is an expression and no form is told behind it; end is the index of what follows, counted from before the first of ts
pub record IsExpression (at : ℕ) (ts : List Token) (e : Expr) (end : ℕ) : Type 0 where
  pub rest : List Token
  pub longest : Longest expr deepest ts e rest
  pub plain : IsPlain longest.run rest
  pub ends : end ≡ at + length longest.run

pub record IsUnsupported (ts : List Token) (form : Form) (place : Pos) : Type 0 where
  pub run : List Token
  pub rest : List Token
  pub front : IsFront ts run rest
  pub is_told : IsTold run rest form place

-- the longest run is no expression and no form is told behind it
pub record IsSyntax (ts : List Token) (place : Pos) : Type 0 where
  pub rest : List Token
  pub stops : StopsAt expr deepest ts rest
  pub plain : IsPlain stops.run rest
  pub stands : IsStop ts rest place

-- a token opens nesting 101, and an expression begins with what stands before it
pub record IsTooDeep (ts : List Token) (place : Pos) : Type 0 where
  pub rest : List Token
  pub deep : TooDeepAt expr deepest ts rest
  pub stands : deep.opener.at ≡ place

-- the answer of the tokens ts, which stand from the index at on
abbrev pub Judged : ℕ → List Token → Result (Expr × ℕ) SyntaxError → Type 0
Judged at ts (Ok x) = IsExpression at ts x.0 x.1
Judged at ts (Err (Unsupported form place)) = IsUnsupported ts form place
Judged at ts (Err (TooDeep place)) = IsTooDeep ts place
Judged at ts (Err (Syntax place)) = IsSyntax ts place
Judged at ts (Err Memory) = Unit {0}

-- what is answered of the tokens where memory doesn't run out
abbrev pub Answers : ℕ → List Token → Result (Expr × ℕ) SyntaxError → Type 0
Answers at ts r = Judged at ts r × (r ≡ Err Memory → ⊥)
