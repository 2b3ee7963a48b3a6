-- Operators and delimiters (Language Reference, 2.5 and 2.6), by longest match.
use Rattle.std.specs.Prelude.{ℕ, Bool, List, [], ◌∷◌, Option, Some, None, ◌&&◌, ◌||◌, ◌==◌, if◌then◌else◌}
use Rattle.py_lexer.specs.declared.operators.Operator.{Operator}
use Rattle.py_lexer.specs.declared.token.Kind.{Kind}
use Rattle.py_lexer.specs.declared.token.Kind.TheVariants as kinds

-- the operator of this one character
abbrev pub sign : ℕ → Option Kind
sign c =
    if c == 40 then Some kinds.LeftParen else (
    if c == 41 then Some kinds.RightParen else (
    if c == 91 then Some kinds.LeftBracket else (
    if c == 93 then Some kinds.RightBracket else (
    if c == 123 then Some kinds.LeftBrace else (
    if c == 125 then Some kinds.RightBrace else (
    if c == 44 then Some kinds.Comma else (
    if c == 58 then Some kinds.Colon else (
    if c == 46 then Some kinds.Dot else (
    if c == 59 then Some kinds.Semicolon else (
    if c == 61 then Some kinds.Equal else (
    if c == 43 then Some kinds.Plus else (
    if c == 45 then Some kinds.Minus else (
    if c == 42 then Some kinds.Star else (
    if c == 47 then Some kinds.Slash else (
    if c == 37 then Some kinds.Percent else (
    if c == 64 then Some kinds.At else (
    if c == 38 then Some kinds.Ampersand else (
    if c == 124 then Some kinds.Bar else (
    if c == 94 then Some kinds.Caret else (
    if c == 126 then Some kinds.Tilde else (
    if c == 60 then Some kinds.Less else (
    if c == 62 then Some kinds.Greater else (
    None)))))))))))))))))))))))

-- its kind, and in the place of none that of a line end
abbrev pub kind_or_newline : Option Kind → Kind
kind_or_newline None = kinds.Newline
kind_or_newline (Some k) = k

-- of this character and `=`
abbrev pub before_equal : ℕ → Option Kind
before_equal c =
    if c == 61 then Some kinds.DoubleEqual else (
    if c == 33 then Some kinds.NotEqual else (
    if c == 60 then Some kinds.LessEqual else (
    if c == 62 then Some kinds.GreaterEqual else (
    if c == 58 then Some kinds.ColonEqual else (
    if c == 43 then Some kinds.PlusEqual else (
    if c == 45 then Some kinds.MinusEqual else (
    if c == 42 then Some kinds.StarEqual else (
    if c == 47 then Some kinds.SlashEqual else (
    if c == 37 then Some kinds.PercentEqual else (
    if c == 64 then Some kinds.AtEqual else (
    if c == 38 then Some kinds.AmpersandEqual else (
    if c == 124 then Some kinds.BarEqual else (
    if c == 94 then Some kinds.CaretEqual else (
    None))))))))))))))

-- of this character twice
abbrev pub doubled : ℕ → Option Kind
doubled c =
    if c == 42 then Some kinds.DoubleStar else (
    if c == 47 then Some kinds.DoubleSlash else (
    if c == 60 then Some kinds.LeftShift else (
    if c == 62 then Some kinds.RightShift else (
    None))))

-- of this character twice and `=`
abbrev pub doubled_before_equal : ℕ → Option Kind
doubled_before_equal c =
    if c == 42 then Some kinds.DoubleStarEqual else (
    if c == 47 then Some kinds.DoubleSlashEqual else (
    if c == 60 then Some kinds.LeftShiftEqual else (
    if c == 62 then Some kinds.RightShiftEqual else (
    None))))

-- of these two characters
abbrev pub two_signs : ℕ → ℕ → Option Kind
two_signs a b =
    if b == 61 then before_equal a else (
    if a == b then doubled a else (
    if (a == 45) && (b == 62) then Some kinds.Arrow else None))

-- of these three characters
abbrev pub three_signs : ℕ → ℕ → ℕ → Option Kind
three_signs a b c =
    if a == b then (
    if c == 61 then doubled_before_equal a else (
    if (a == 46) && (c == 46) then Some kinds.Ellipsis else None))
    else None

-- an operator of several characters may have this one second
abbrev pub may_go_on : ℕ → Bool
may_go_on c = (c == 61) || ((c == 42) || ((c == 47) || ((c == 60) || ((c == 62) || (c == 46)))))

-- the operator of n characters, or else another
abbrev pub operator_or : ℕ → Option Kind → Option Operator → Option Operator
operator_or n (Some kind) other = Some (record { len = n; kind = kind })
operator_or n None other = other

-- the longest operator at the front
abbrev pub longest_operator : List ℕ → Option Operator
longest_operator [] = None
longest_operator (a ∷ []) = operator_or 1 (sign a) None
longest_operator (a ∷ b ∷ []) = operator_or 2 (two_signs a b) (operator_or 1 (sign a) None)
longest_operator (a ∷ b ∷ c ∷ cs) = operator_or 3 (three_signs a b c) (operator_or 2 (two_signs a b) (operator_or 1 (sign a) None))
