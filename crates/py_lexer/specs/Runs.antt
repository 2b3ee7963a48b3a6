-- A text's tokens, or its one fault: piece by piece, from the left.
use Rattle.std.specs.Prelude.{◌≡◌, ℕ, List, [], ◌∷◌, take, drop, None}
use Rattle.py_literals.specs.declared.place.Pos.{Pos}
use Rattle.py_literals.specs.Place.{after}
use Rattle.py_lexer.specs.declared.token.Kind.{Kind}
use Rattle.py_lexer.specs.declared.token.Value.{Value}
use Rattle.py_lexer.specs.declared.token.Token.{Token}
use Rattle.py_lexer.specs.declared.token.LexKind.{LexKind}
use Rattle.py_lexer.specs.declared.token.LexKind.TheVariants.{OpenBracket}
use Rattle.py_lexer.specs.declared.token.LexError.{LexError}
use Rattle.py_lexer.specs.declared.token.LexError.TheVariants as errors
use Rattle.py_lexer.specs.declared.state.Mode.TheVariants as modes
use Rattle.py_lexer.specs.declared.state.State.{State}
use Rattle.py_lexer.specs.Front.{Found, Passed, Bad, Unclosed, Over}
use Rattle.py_lexer.specs.Pieces.{piece}
use Rattle.py_lexer.specs.Source.{source_chars}

abbrev pub token : Kind → Value → Pos → Token
token kind value at = record { kind = kind; value = value; at = at }

-- the characters cs, the first of which stands at `at` where s is open, have these tokens
pub data Tokens : Pos → State → List ℕ → List Token → Type 0 where
  over : {at : Pos} {s : State} {cs : List ℕ} → piece at s cs ≡ Over → Tokens at s cs []
  found : {at : Pos} {s t : State} {cs : List ℕ} {n : ℕ} {k : Kind} {v : Value} {ks : List Token} →
      piece at s cs ≡ Found n k v t → Tokens (after at (take n cs)) t (drop n cs) ks → Tokens at s cs (token k v at ∷ ks)
  passed : {at : Pos} {s t : State} {cs : List ℕ} {n : ℕ} {ks : List Token} →
      piece at s cs ≡ Passed n t → Tokens (after at (take n cs)) t (drop n cs) ks → Tokens at s cs ks

-- the first fault of the characters cs, and its place
pub data Faulty : Pos → State → List ℕ → LexKind → Pos → Type 0 where
  bad : {at : Pos} {s : State} {cs : List ℕ} {n : ℕ} {fault : LexKind} →
      piece at s cs ≡ Bad fault n → Faulty at s cs fault (after at (take n cs))
  unclosed : {at bracket : Pos} {s : State} {cs : List ℕ} → piece at s cs ≡ Unclosed bracket → Faulty at s cs OpenBracket bracket
  behind_token : {at place : Pos} {s t : State} {cs : List ℕ} {n : ℕ} {k : Kind} {v : Value} {fault : LexKind} →
      piece at s cs ≡ Found n k v t → Faulty (after at (take n cs)) t (drop n cs) fault place → Faulty at s cs fault place
  behind : {at place : Pos} {s t : State} {cs : List ℕ} {n : ℕ} {fault : LexKind} →
      piece at s cs ≡ Passed n t → Faulty (after at (take n cs)) t (drop n cs) fault place → Faulty at s cs fault place

abbrev pub first_place : Pos
first_place = record { line = 1; col = 1 }

-- before the first character a logical line begins, and nothing is open
abbrev pub start : State
start = record { mode = modes.LineStart; brackets = []; blocks = []; white = None }

-- the answer in place of tokens, for the characters of a source: its fault, or that there is no memory
abbrev pub IsFaultOf : List ℕ → LexError → Type 0
IsFaultOf source (errors.Fault kind place) = Faulty first_place start source kind place
IsFaultOf source errors.Memory = Unit {0}

-- the tokens of a text of these characters
abbrev pub HasTokens : List ℕ → List Token → Type 0
HasTokens text tokens = Tokens first_place start (source_chars text) tokens

-- the one fault of a text of these characters, and its place
abbrev pub HasFault : List ℕ → LexKind → Pos → Type 0
HasFault text fault place = Faulty first_place start (source_chars text) fault place

-- the answer in place of tokens, for a text of these characters
abbrev pub IsRefusedBy : List ℕ → LexError → Type 0
IsRefusedBy text error = IsFaultOf (source_chars text) error
