-- Numbers as sections 2.4.5 to 2.4.7 of the Python Language Reference write them, rule by rule.
use Rattle.std.specs.Prelude.{◌<◌, ℕ, Bool, List, [], ◌∷◌, ◌++◌, ◌⊎◌, ◌||◌, ◌==◌, nat_lt, IsTrue, not, if◌then◌else◌}
use Rattle.std.specs.Char.{digit_value}

-- c is a digit of this base; '0' is the one digit of base 1
unfoldable pub is_digit_of : ℕ → ℕ → Bool
is_digit_of base c = nat_lt (digit_value c) base

-- the base that the letter behind a '0' announces, or 0
unfoldable pub base_of : ℕ → ℕ
base_of c =
    if (c == 120) || (c == 88) then 16 else (
    if (c == 111) || (c == 79) then 8 else (
    if (c == 98) || (c == 66) then 2 else 0))

-- (["_"] digit)*
pub data Digits (base : ℕ) : List ℕ → Type 0 where
  none : Digits base []
  next : {c : ℕ} {cs : List ℕ} → IsTrue (is_digit_of base c) → Digits base cs → Digits base (c ∷ cs)
  parted : {c : ℕ} {cs : List ℕ} → IsTrue (is_digit_of base c) → Digits base cs → Digits base (95 ∷ c ∷ cs)

-- decinteger ::= nonzerodigit (["_"] digit)* | "0"+ (["_"] "0")*
-- bininteger ::= "0" ("b" | "B") (["_"] bindigit)+, and so the octal and hexadecimal ones
pub data IsInteger : List ℕ → Type 0 where
  decimal : {c : ℕ} {cs : List ℕ} → IsTrue (is_digit_of 10 c) → IsTrue (not (c == 48)) → Digits 10 cs → IsInteger (c ∷ cs)
  zeros : {cs : List ℕ} → Digits 1 cs → IsInteger (48 ∷ cs)
  based : {c d : ℕ} {ds : List ℕ} → 0 < base_of c → Digits (base_of c) (d ∷ ds) → IsInteger (48 ∷ c ∷ d ∷ ds)

-- digitpart ::= digit (["_"] digit)*
pub data IsDigitPart : List ℕ → Type 0 where
  digits : {c : ℕ} {cs : List ℕ} → IsTrue (is_digit_of 10 c) → Digits 10 cs → IsDigitPart (c ∷ cs)

-- exponent ::= ("e" | "E") ["+" | "-"] digitpart
abbrev pub is_exponent_mark : ℕ → Bool
is_exponent_mark c = (c == 101) || (c == 69)

abbrev pub is_sign : ℕ → Bool
is_sign c = (c == 43) || (c == 45)

pub data IsExponent : List ℕ → Type 0 where
  plain : {e : ℕ} {ds : List ℕ} → IsTrue (is_exponent_mark e) → IsDigitPart ds → IsExponent (e ∷ ds)
  signed : {e s : ℕ} {ds : List ℕ} → IsTrue (is_exponent_mark e) → IsTrue (is_sign s) → IsDigitPart ds → IsExponent (e ∷ s ∷ ds)

-- pointfloat ::= [digitpart] fraction | digitpart "."
-- fraction ::= "." digitpart
pub data IsPointFloat : List ℕ → Type 0 where
  fraction : {ds : List ℕ} → IsDigitPart ds → IsPointFloat (46 ∷ ds)
  whole_and_fraction : {ds es : List ℕ} → IsDigitPart ds → IsDigitPart es → IsPointFloat (ds ++ 46 ∷ es)
  whole : {ds : List ℕ} → IsDigitPart ds → IsPointFloat (ds ++ 46 ∷ [])

-- floatnumber ::= pointfloat | exponentfloat
-- exponentfloat ::= (digitpart | pointfloat) exponent
pub data IsFloat : List ℕ → Type 0 where
  point : {cs : List ℕ} → IsPointFloat cs → IsFloat cs
  digits_exponent : {ds es : List ℕ} → IsDigitPart ds → IsExponent es → IsFloat (ds ++ es)
  point_exponent : {cs es : List ℕ} → IsPointFloat cs → IsExponent es → IsFloat (cs ++ es)

abbrev pub is_imaginary_mark : ℕ → Bool
is_imaginary_mark c = (c == 106) || (c == 74)

-- imagnumber ::= (floatnumber | digitpart) ("j" | "J")
pub data IsImaginary : List ℕ → Type 0 where
  of_float : {cs : List ℕ} (j : ℕ) → IsFloat cs → IsTrue (is_imaginary_mark j) → IsImaginary (cs ++ j ∷ [])
  of_digits : {ds : List ℕ} (j : ℕ) → IsDigitPart ds → IsTrue (is_imaginary_mark j) → IsImaginary (ds ++ j ∷ [])

-- a floating point or an imaginary number
abbrev pub IsFloating : List ℕ → Type 0
IsFloating cs = IsFloat cs ⊎ IsImaginary cs

-- a number of any form
abbrev pub IsNumber : List ℕ → Type 0
IsNumber cs = IsInteger cs ⊎ IsFloating cs
