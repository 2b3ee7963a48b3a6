-- Why a text has no models: its lexical fault, or the one fault of its tokens, which has the least place among two:
--   Syntax stands at the last token of the shortest part from the front with which no spelled list begins, or at the last token of all where
--   each part begins a spelled list;
--   Unsupported stands at the first token of a form that isn't read, no later than Syntax would.
use Rattle.std.specs.Prelude.{◌≡◌, ℕ, suc, ◌-◌, ◌<◌, ◌≤◌, min, List, length, take, slice_get, Some}
use Rattle.py_literals.specs.declared.place.Pos.{Pos}
use Rattle.py_lexer.specs.declared.token.Token.{Token}
use Rattle.py_lexer.specs.declared.form.Form.{Form}
use Rattle.py_lexer.specs.Runs.{HasTokens, HasFault}
use Rattle.phrases.specs.Spelling.{Begins}
use Rattle.pysa_syntax.specs.declared.decl.Decl.{Decl}
use Rattle.pysa_syntax.specs.declared.error.ModelError.{ModelError}
use Rattle.pysa_syntax.specs.declared.error.ModelError.TheVariants as errors
use Rattle.pysa_syntax.specs.Grammar.{file}
use Rattle.pysa_syntax.specs.Forms.{form_at, NoForm}

-- the tokens spell these models
abbrev pub Spells : List Token → List Decl → Type 0
Spells ts decls = file.Spells ts decls

-- some spelled list begins with these tokens
abbrev pub Viable : List Token → Type 0
Viable ts = Begins file.Spells ts

-- of the tokens, the first n are the longest part with which a spelled list begins
pub record Longest (ts : List Token) (n : ℕ) : Type 0 where
  pub within : n ≤ length ts
  pub viable : Viable (take n ts)
  pub ends : n < length ts → Viable (take (suc n) ts) → ⊥

-- token i is where Syntax would stand
pub record StopsAt (ts : List Token) (i : ℕ) : Type 0 where
  pub unspelled : (decls : List Decl) → Spells ts decls → ⊥
  pub count : ℕ
  pub longest : Longest ts count
  pub is : i ≡ min count (length ts - 1)

-- token i stands here
pub record StandsAt (ts : List Token) (i : ℕ) (place : Pos) : Type 0 where
  pub token : Token
  pub is : slice_get ts i ≡ Some token
  pub at : place ≡ token.at

pub record SyntaxAt (ts : List Token) (place : Pos) : Type 0 where
  pub index : ℕ
  pub stops : StopsAt ts index
  pub stands : StandsAt ts index place
  pub no_form : NoForm ts (suc index)

pub record UnsupportedAt (ts : List Token) (form : Form) (place : Pos) : Type 0 where
  pub last : ℕ
  pub stops : StopsAt ts last
  pub index : ℕ
  pub within : index ≤ last
  pub stands : StandsAt ts index place
  pub has : form_at ts index ≡ Some form
  pub first : NoForm ts index

-- the answer in place of models, for tokens
abbrev pub IsFaultOf : List Token → ModelError → Type 0
IsFaultOf ts (errors.Lex kind place) = ⊥
IsFaultOf ts (errors.Syntax place) = SyntaxAt ts place
IsFaultOf ts (errors.Unsupported form place) = UnsupportedAt ts form place
IsFaultOf ts errors.Memory = Unit {0}

-- ---- texts

-- the text of these characters has tokens, of which a fact holds
pub record WithTokens (text : List ℕ) (P : List Token → Type 0) : Type 0 where
  pub tokens : List Token
  pub are : HasTokens text tokens
  pub holds : P tokens

-- the text has these models
abbrev pub HasModels : List ℕ → List Decl → Type 0
HasModels text decls = WithTokens text (λ ts. Spells ts decls)

-- the answer in place of models, for a text
abbrev pub IsRefusedBy : List ℕ → ModelError → Type 0
IsRefusedBy text (errors.Lex kind place) = HasFault text kind place
IsRefusedBy text (errors.Syntax place) = WithTokens text (λ ts. SyntaxAt ts place)
IsRefusedBy text (errors.Unsupported form place) = WithTokens text (λ ts. UnsupportedAt ts form place)
IsRefusedBy text errors.Memory = Unit {0}
