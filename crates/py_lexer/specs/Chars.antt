-- What a character may begin (Language Reference, 2.1 and 2.3 to 2.6).
use Rattle.std.specs.Prelude.{ℕ, Bool, not, nat_le, ◌&&◌, ◌||◌, ◌==◌, if◌then◌else◌}
use Rattle.rv_names.specs.Identifier.{is_identifier_start}
use Rattle.py_lexer.specs.declared.chars.Class.{Class}
use Rattle.py_lexer.specs.declared.chars.Class.TheVariants.{White, LineEnd, Comment, Backslash, Quote, Digit, Dot, Letter, Sign}

-- space, tab and form feed
abbrev pub is_white : ℕ → Bool
is_white c = (c == 32) || ((c == 9) || (c == 12))

abbrev pub is_line_end : ℕ → Bool
is_line_end c = c == 10

-- a character of the same physical line
abbrev pub is_in_line : ℕ → Bool
is_in_line c = not (is_line_end c)

abbrev pub is_digit : ℕ → Bool
is_digit c = nat_le 48 c && nat_le c 57

abbrev pub is_quote : ℕ → Bool
is_quote c = (c == 34) || (c == 39)

abbrev pub class_of : ℕ → Class
class_of c =
    if is_white c then White else (
    if is_line_end c then LineEnd else (
    if c == 35 then Comment else (
    if c == 92 then Backslash else (
    if is_quote c then Quote else (
    if is_digit c then Digit else (
    if c == 46 then Dot else (
    if is_identifier_start c then Letter else Sign)))))))
