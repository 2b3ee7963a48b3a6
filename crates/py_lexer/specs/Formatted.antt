-- The parts of a formatted string (Language Reference, 2.4.3).
use Rattle.std.specs.Prelude.{ℕ, ◌-◌, ◌==◌, List, [], ◌∷◌, length, take, Result, Ok, Err, encode_utf8_all, if◌then◌else◌}
use Rattle.py_literals.specs.declared.place.Pos.{Pos}
use Rattle.py_literals.specs.declared.text.StringKind.{StringKind}
use Rattle.py_literals.specs.Escape.{decoded}
use Rattle.py_literals.specs.Formatted.{text_len}
use Rattle.py_lexer.specs.declared.piece.Lexeme.{Lexeme}
use Rattle.py_lexer.specs.declared.piece.Lexeme.TheVariants.{Spelled, Refused}
use Rattle.py_lexer.specs.declared.token.Kind.TheVariants as kinds
use Rattle.py_lexer.specs.declared.token.Value.TheVariants as values
use Rattle.py_lexer.specs.declared.token.LexKind.TheVariants.{BadEscape}
use Rattle.py_lexer.specs.declared.state.Mode.TheVariants as modes
use Rattle.py_lexer.specs.declared.state.State.{State}
use Rattle.py_lexer.specs.Front.{Front, Found, front_of_lexeme}
use Rattle.py_lexer.specs.Inside.{inside}
use Rattle.py_lexer.specs.Strings.{quotes_len}

-- a text between fields, and its value or the offset of its first bad escape
abbrev pub text_by : ℕ → Result (List ℕ) ℕ → Lexeme
text_by n (Err bad) = Refused BadEscape bad
text_by n (Ok value) = Spelled n kinds.FStringText (values.Text (encode_utf8_all value))

abbrev pub text_of : StringKind → List ℕ → Lexeme
text_of kind text = text_by (length text) (decoded kind text)

-- n characters of text stand before the next field or the end of the body
abbrev pub text_or_field : State → StringKind → ℕ → List ℕ → ℕ → Front
text_or_field s kind beyond body n =
    if n == 0 then Found 1 kinds.FieldOpen values.Nothing (record s { mode = modes.Field kind beyond })
    else front_of_lexeme (text_of kind (take n body)) s

-- body is what is left of the string's body
abbrev pub literal_by : State → StringKind → ℕ → List ℕ → Front
literal_by s kind beyond [] = Found (quotes_len kind) kinds.FStringEnd values.Nothing (record s { mode = modes.Inside })
literal_by s kind beyond (c ∷ body) = text_or_field s kind beyond (c ∷ body) (text_len (c ∷ body))

-- outside of fields: a text, the `{` of a field, or the closing quotes
abbrev pub literal : State → StringKind → ℕ → List ℕ → Front
literal s kind beyond cs = literal_by s kind beyond (take (length cs - beyond) cs)

-- the `}` of a field
abbrev pub field_end : State → StringKind → ℕ → Front
field_end s kind beyond = Found 1 kinds.FieldClose values.Nothing (record s { mode = modes.Literal kind beyond })

-- in a field: its tokens, up to its `}`
abbrev pub field : Pos → State → StringKind → ℕ → ℕ → List ℕ → Front
field at s kind beyond c cs = if c == 125 then field_end s kind beyond else inside at s c cs
