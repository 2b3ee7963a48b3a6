-- Keywords, names and numbers at the front of a text.
use Rattle.std.specs.Prelude.{ℕ, Bool, false, ◌+◌, ◌<◌, ◌^◌, List, [], ◌∷◌, take, drop, Option, Some, None, pos, encode_utf8_all, if◌then◌else◌}
use Rattle.std.specs.List.{prefix_len}
use Rattle.unicode_normalization.specs.Forms.{is_in_form, Nfkc}
use Rattle.rv_names.specs.Identifier.{is_identifier_continue}
use Rattle.py_literals.specs.declared.number.NumberFront.{NumberFront}
use Rattle.py_literals.specs.declared.number.NumberValue.{NumberValue}
use Rattle.py_literals.specs.declared.number.NumberValue.TheVariants as numbers
use Rattle.py_literals.specs.Number as literals
use Rattle.py_lexer.specs.declared.piece.Lexeme.{Lexeme}
use Rattle.py_lexer.specs.declared.piece.Lexeme.TheVariants.{Spelled, Refused}
use Rattle.py_lexer.specs.declared.token.Kind.{Kind}
use Rattle.py_lexer.specs.declared.token.Kind.TheVariants as kinds
use Rattle.py_lexer.specs.declared.token.Value.TheVariants as values
use Rattle.py_lexer.specs.declared.token.LexKind.TheVariants.{BadNumber, WideNumber, NotNormal}
use Rattle.py_lexer.specs.Keywords.{keyword_of}

-- the next character, if there is one, passes the test
abbrev pub next_is : (ℕ → Bool) → List ℕ → Bool
next_is p [] = false
next_is p (c ∷ cs) = p c

-- the n characters of text are a keyword, or else an identifier, which has to be in NFKC (2.3)
abbrev pub word_by : ℕ → List ℕ → Option Kind → Lexeme
word_by n text (Some keyword) = Spelled n keyword values.Nothing
word_by n text None =
    if is_in_form Nfkc text then Spelled n kinds.Name (values.Name (encode_utf8_all text)) else Refused NotNormal 0

abbrev pub word_of : ℕ → List ℕ → Lexeme
word_of n text = word_by n text (keyword_of (encode_utf8_all text))

-- how many characters a word has, that begins here with a letter
abbrev pub word_len : List ℕ → ℕ
word_len [] = 0
word_len (c ∷ cs) = 1 + prefix_len is_identifier_continue cs

abbrev pub word : List ℕ → Lexeme
word cs = word_of (word_len cs) (take (word_len cs) cs)

-- a whole number that isn't wide is below 2^127
abbrev pub IsNarrow : NumberValue → Type 0
IsNarrow (numbers.Whole v) = v < 2 ^ 127
IsNarrow numbers.Wide = Unit {0}
IsNarrow numbers.Float = Unit {0}

-- a number of n characters (2.4.4 to 2.4.7)
abbrev pub number_of : ℕ → NumberValue → Lexeme
number_of n (numbers.Whole v) = Spelled n kinds.Number (values.Whole (pos v))
number_of n numbers.Wide = Refused WideNumber 0
number_of n numbers.Float = Spelled n kinds.Float values.Nothing

-- no character of a name follows a number
abbrev pub number_by : List ℕ → Option NumberFront → Lexeme
number_by cs None = Refused BadNumber 0
number_by cs (Some front) =
    if next_is is_identifier_continue (drop front.len cs) then Refused BadNumber 0 else number_of front.len front.value

abbrev pub number : List ℕ → Lexeme
number cs = number_by cs (literals.number cs)
