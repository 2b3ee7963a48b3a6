-- Strings at the front of a text (Language Reference, 2.4.1 to 2.4.3).
use Rattle.std.specs.Prelude.{ℕ, ◌+◌, ◌-◌, min, List, length, take, drop, Option, Some, None, Result, Ok, Err, encode_utf8_all, if◌then◌else◌}
use Rattle.py_literals.specs.declared.text.StringKind.{StringKind}
use Rattle.py_literals.specs.declared.text.Opening.{Opening}
use Rattle.py_literals.specs.Text.{opening, body_len}
use Rattle.py_literals.specs.Escape.{decoded}
use Rattle.py_literals.specs.Formatted.{has_form}
use Rattle.py_lexer.specs.declared.piece.Lexeme.{Lexeme}
use Rattle.py_lexer.specs.declared.piece.Lexeme.TheVariants.{Spelled, Refused}
use Rattle.py_lexer.specs.declared.token.Kind.TheVariants as kinds
use Rattle.py_lexer.specs.declared.token.Value.TheVariants as values
use Rattle.py_lexer.specs.declared.token.LexKind.TheVariants.{BadChar, OpenString, BadEscape, FStringForm}
use Rattle.py_lexer.specs.declared.state.Mode.TheVariants as modes
use Rattle.py_lexer.specs.declared.state.State.{State}
use Rattle.py_lexer.specs.Front.{Front, Found, Bad, front_of_lexeme}
use Rattle.py_lexer.specs.Words.{word}

abbrev pub quotes_len : StringKind → ℕ
quotes_len kind = if kind.triple then 3 else 1

-- where the opening quotes begin, behind the prefix
abbrev pub quotes_at : Opening → ℕ
quotes_at o = o.len - quotes_len o.kind

-- the string of this opening, of n characters in all, and its value
abbrev pub valued : Opening → ℕ → List ℕ → Lexeme
valued o n value = if o.kind.bytes then Spelled n kinds.Bytes values.Nothing else Spelled n kinds.Text (values.Text (encode_utf8_all value))

-- the string of this opening, its body of n characters and its value, or the offset in it of its first bad escape
abbrev pub unformatted_by : Opening → ℕ → Result (List ℕ) ℕ → Lexeme
unformatted_by o n (Err bad) = Refused BadEscape (o.len + min bad n)
unformatted_by o n (Ok value) = valued o (o.len + n + quotes_len o.kind) value

abbrev pub unformatted : Opening → List ℕ → Lexeme
unformatted o body = unformatted_by o (length body) (decoded o.kind body)

-- the beginning of a formatted string, behind whose body so many characters stand
abbrev pub formatted : State → Opening → List ℕ → ℕ → Front
formatted s o body beyond =
    if has_form o.kind body then Found o.len kinds.FStringStart values.Nothing (record s { mode = modes.Literal o.kind beyond })
    else Bad FStringForm (quotes_at o)

-- rest stands behind the opening quotes, and n characters of it are the body: its end is sought before anything in it
abbrev pub string_by : State → Opening → List ℕ → Option ℕ → Front
string_by s o rest None = Bad OpenString (quotes_at o)
string_by s o rest (Some n) =
    if o.kind.formatted then formatted s o (take n rest) (length rest - n) else front_of_lexeme (unformatted o (take n rest)) s

abbrev pub string_of : State → Opening → List ℕ → Front
string_of s o cs = string_by s o (drop o.len cs) (body_len o.kind (drop o.len cs))

-- where a quote stands
abbrev pub string_at : State → List ℕ → Option Opening → Front
string_at s cs None = Bad BadChar 0
string_at s cs (Some o) = string_of s o cs

abbrev pub string : State → List ℕ → Front
string s cs = string_at s cs (opening cs)

-- where a letter stands: a string with a prefix is longer than the prefix as a word
abbrev pub string_or_word_at : State → List ℕ → Option Opening → Front
string_or_word_at s cs None = front_of_lexeme (word cs) s
string_or_word_at s cs (Some o) = string_of s o cs

abbrev pub string_or_word : State → List ℕ → Front
string_or_word s cs = string_or_word_at s cs (opening cs)
