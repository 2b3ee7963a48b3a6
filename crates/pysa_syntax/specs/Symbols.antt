-- The terminal symbols of the grammar of model files: what it sees of a token (tokens are those of py_lexer).
use Rattle.std.specs.Prelude.{ℕ, List, [], ◌∷◌, ◌++◌, codes, if◌then◌else◌}
use Rattle.std.specs.Str.{bytes_eq}
use Rattle.rv_names.specs.Keys.{Bytes}
use Rattle.py_lexer.specs.declared.token.Kind.{Kind}
use Rattle.py_lexer.specs.declared.token.Kind.TheVariants as kinds
use Rattle.py_lexer.specs.declared.token.Value.{Value}
use Rattle.py_lexer.specs.declared.token.Value.TheVariants as values
use Rattle.py_lexer.specs.declared.token.Token.{Token}
use Rattle.pysa_syntax.specs.declared.symbol.Symbol.{Symbol}
use Rattle.pysa_syntax.specs.declared.symbol.Symbol.TheVariants as symbols

-- each symbol's number, by which the grammar looks ahead
abbrev pub code : Symbol → ℕ
code symbols.Name = 0
code symbols.TaintSource = 1
code symbols.TaintSink = 2
code symbols.TaintInTaintOut = 3
code symbols.Union = 4
code symbols.SkipObscure = 5
code symbols.Def = 6
code symbols.At = 7
code symbols.Star = 8
code symbols.DoubleStar = 9
code symbols.Slash = 10
code symbols.LeftParen = 11
code symbols.RightParen = 12
code symbols.LeftBracket = 13
code symbols.RightBracket = 14
code symbols.Comma = 15
code symbols.Colon = 16
code symbols.Dot = 17
code symbols.Equal = 18
code symbols.Arrow = 19
code symbols.Ellipsis = 20
code symbols.Newline = 21
code symbols.Other = 22

-- a name's symbol
abbrev pub word : Bytes → Symbol
word text =
    if bytes_eq text (codes "TaintSource") then symbols.TaintSource else (
    if bytes_eq text (codes "TaintSink") then symbols.TaintSink else (
    if bytes_eq text (codes "TaintInTaintOut") then symbols.TaintInTaintOut else (
    if bytes_eq text (codes "Union") then symbols.Union else (
    if bytes_eq text (codes "SkipObscure") then symbols.SkipObscure else
    symbols.Name))))

abbrev pub word_in : Value → Symbol
word_in (values.Name text) = word text
word_in _ = symbols.Other

abbrev pub symbol_by : Kind → Value → Symbol
symbol_by kinds.Name value = word_in value
symbol_by kinds.Def value = symbols.Def
symbol_by kinds.At value = symbols.At
symbol_by kinds.Star value = symbols.Star
symbol_by kinds.DoubleStar value = symbols.DoubleStar
symbol_by kinds.Slash value = symbols.Slash
symbol_by kinds.LeftParen value = symbols.LeftParen
symbol_by kinds.RightParen value = symbols.RightParen
symbol_by kinds.LeftBracket value = symbols.LeftBracket
symbol_by kinds.RightBracket value = symbols.RightBracket
symbol_by kinds.Comma value = symbols.Comma
symbol_by kinds.Colon value = symbols.Colon
symbol_by kinds.Dot value = symbols.Dot
symbol_by kinds.Equal value = symbols.Equal
symbol_by kinds.Arrow value = symbols.Arrow
symbol_by kinds.Ellipsis value = symbols.Ellipsis
symbol_by kinds.Newline value = symbols.Newline
symbol_by _ value = symbols.Other

-- a token's symbol
unfoldable pub symbol : Token → Symbol
symbol t = symbol_by t.kind t.value

abbrev pub class : Token → ℕ
class t = code (symbol t)

-- the text of a name
abbrev pub text_in : Value → Bytes
text_in (values.Name text) = text
text_in _ = []

-- ---- sets of symbols

abbrev pub only : Symbol → List ℕ
only s = code s ∷ []

-- a name of any text
abbrev pub names : List ℕ
names =
    code symbols.Name ∷ code symbols.TaintSource ∷ code symbols.TaintSink ∷ code symbols.TaintInTaintOut ∷ code symbols.Union
    ∷ code symbols.SkipObscure ∷ []

-- what has kinds in brackets behind it
abbrev pub sides : List ℕ
sides = code symbols.TaintSource ∷ code symbols.TaintSink ∷ []

abbrev pub mark_first : List ℕ
mark_first = sides ++ only symbols.TaintInTaintOut

abbrev pub param_first : List ℕ
param_first = names ++ (only symbols.Star ++ (only symbols.DoubleStar ++ only symbols.Slash))

abbrev pub model_first : List ℕ
model_first = only symbols.At ++ (only symbols.Def ++ names)
