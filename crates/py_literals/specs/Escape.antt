-- What the characters of a string's body stand for (Python Language Reference, 2.4.1.1).
use Rattle.std.specs.Prelude.{◌+◌, ◌-◌, ◌*◌, ◌==◌, ◌||◌, ◌&&◌, ℕ, zero, suc, Bool, not, nat_lt, nat_le, List, [], ◌∷◌, ◌++◌, Option, Some, None, Result, Ok, Err, if◌then◌else◌}
use Rattle.std.specs.Char.{digit_value}
use Rattle.py_literals.specs.declared.text.StringKind.{StringKind}
use Rattle.py_literals.specs.declared.escape.Meaning.{Meaning}
use Rattle.py_literals.specs.declared.escape.Meaning.TheVariants.{Stands, Joined, Refused}
use Rattle.py_literals.specs.Grammar.{is_digit_of}
use Rattle.py_literals.specs.Formatted.{is_doubled}

-- the code of a character: no surrogate, and at most 0x10FFFF
unfoldable pub is_character : ℕ → Bool
is_character v = nat_lt v 0xD800 || (nat_le 0xE000 v && nat_le v 0x10FFFF)

-- the character of n hexadecimal digits, behind others of value v
abbrev pub hex_from : ℕ → ℕ → List ℕ → Option ℕ
hex_from v zero cs = if is_character v then Some v else None
hex_from v (suc n) [] = None
hex_from v (suc n) (c ∷ cs) = if is_digit_of 16 c then hex_from (v * 16 + digit_value c) n cs else None

-- an escape of n characters for this one
abbrev pub stands : ℕ → Option ℕ → Meaning
stands n None = Refused
stands n (Some c) = Stands c n

-- a backslash, a letter and n hexadecimal digits
abbrev pub hex_escape : ℕ → List ℕ → Meaning
hex_escape n cs = stands (n + 2) (hex_from 0 n cs)

-- one to three octal digits, the first of which is d
abbrev pub octal_escape : ℕ → List ℕ → Meaning
octal_escape d [] = Stands (digit_value d) 2
octal_escape d (e ∷ []) =
    if is_digit_of 8 e then Stands (digit_value d * 8 + digit_value e) 3 else Stands (digit_value d) 2
octal_escape d (e ∷ f ∷ cs) =
    if is_digit_of 8 e then (
    if is_digit_of 8 f then Stands ((digit_value d * 8 + digit_value e) * 8 + digit_value f) 4
    else Stands (digit_value d * 8 + digit_value e) 3)
    else Stands (digit_value d) 2

-- the character of an escape of one letter or sign, or 0
unfoldable pub short_escape : ℕ → ℕ
short_escape c =
    if (c == 92) || ((c == 39) || (c == 34)) then c else (
    if c == 97 then 7 else (if c == 98 then 8 else (if c == 102 then 12 else (
    if c == 110 then 10 else (if c == 114 then 13 else (if c == 116 then 9 else (if c == 118 then 11 else 0)))))))

-- the escapes that bytes don't have
abbrev pub named_escape : ℕ → List ℕ → Meaning
named_escape c cs =
    if c == 78 then Refused else (
    if c == 117 then hex_escape 4 cs else (
    if c == 85 then hex_escape 8 cs else Stands 92 1))

-- a backslash and what follows it
abbrev pub escape : Bool → List ℕ → Meaning
escape bytes [] = Stands 92 1
escape bytes (c ∷ cs) =
    if c == 10 then Joined else (
    if nat_lt 0 (short_escape c) then Stands (short_escape c) 2 else (
    if is_digit_of 8 c then octal_escape c cs else (
    if c == 120 then hex_escape 2 cs else (
    if bytes then Stands 92 1 else named_escape c cs))))

-- what the first character of the rest of a body stands for, together with those that belong to it
abbrev pub meaning : StringKind → ℕ → List ℕ → Meaning
meaning k c cs =
    if (c == 92) && not k.raw then escape k.bytes cs else (
    if k.formatted && is_doubled c cs then Stands c 2 else Stands c 1)

-- how many characters have this meaning together
abbrev pub extent : Meaning → ℕ
extent (Stands c n) = n
extent Joined = 2
extent Refused = 1

-- a character before the value of the rest; n characters before the offset of the first bad backslash
abbrev pub behind : List ℕ → ℕ → Result (List ℕ) ℕ → Result (List ℕ) ℕ
behind vs n (Ok ws) = Ok (vs ++ ws)
behind vs n (Err m) = Err (n + m)

-- what is left of a body, by what its first character stands for; n of the characters behind that one belong to it
abbrev pub decoded_by : Meaning → (ℕ → Result (List ℕ) ℕ) → Result (List ℕ) ℕ
decoded_by (Stands c n) rest = behind (c ∷ []) 1 (rest (n - 1))
decoded_by Joined rest = behind [] 1 (rest 1)
decoded_by Refused rest = Err 0

-- what is left of a body, of which the first n characters belong to the escape before
abbrev pub decoded_past : StringKind → List ℕ → ℕ → Result (List ℕ) ℕ
decoded_past k [] n = Ok []
decoded_past k (c ∷ cs) (suc n) = behind [] 1 (decoded_past k cs n)
decoded_past k (c ∷ cs) zero = decoded_by (meaning k c cs) (λ n. decoded_past k cs n)

-- the value of a body, or the offset of its first bad backslash
abbrev pub decoded : StringKind → List ℕ → Result (List ℕ) ℕ
decoded k body = decoded_past k body 0
