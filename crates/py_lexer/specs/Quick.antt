-- Tokens that are pushed as soon as they are told.
use Rattle.std.specs.Prelude.{◌≡◌, ◌⊎◌, ℕ, Bool, true, not, ◌==◌, ◌||◌, List, [], ◌∷◌, ◌++◌}
use Rattle.py_literals.specs.declared.place.Pos.{Pos}
use Rattle.py_lexer.specs.declared.token.Kind.{Kind}
use Rattle.py_lexer.specs.declared.token.Value.{Value}
use Rattle.py_lexer.specs.declared.token.Token.{Token}
use Rattle.py_lexer.specs.declared.state.State.{State}
use Rattle.py_lexer.specs.Chars.{is_quote}
use Rattle.py_lexer.specs.Front.{Front, Found, Passed}
use Rattle.py_lexer.specs.Runs.{token}

-- front is a token of n characters, behind which t is open, and it stands behind the tokens before it
pub record IsPushed (at : Pos) (front : Front) (n : ℕ) (t : State) (before behind : List Token) : Type 0 where
  pub kind : Kind
  pub value : Value
  pub found : Found n kind value t ≡ front
  pub pushed : behind ≡ before ++ (token kind value at ∷ [])

-- front is a line end, which is a token or is passed, and t is open behind it
abbrev pub IsLineEnded : Pos → Front → State → List Token → List Token → Type 0
IsLineEnded at front t before behind = IsPushed at front 1 t before behind ⊎ ((Passed 1 t ≡ front) × (behind ≡ before))

-- one of the next two characters is a quote, or isn't there
abbrev pub has_quote_near : List ℕ → Bool
has_quote_near [] = true
has_quote_near (c ∷ []) = true
has_quote_near (c ∷ d ∷ ds) = is_quote c || is_quote d

-- in a string between such quotes the character stands for itself, and ends neither the string nor a line
abbrev pub is_plain_in : ℕ → ℕ → Bool
is_plain_in quote c = not ((c == quote) || ((c == 92) || (c == 10)))
