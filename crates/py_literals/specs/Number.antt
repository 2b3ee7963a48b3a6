-- The longest number at the front of a text, part by part, and what it stands for.
use Rattle.std.specs.Prelude.{◌≡◌, ◌+◌, ◌*◌, ◌^◌, ◌<◌, ◌≤◌, ◌≢◌, ◌==◌, ◌||◌, ◌&&◌, ℕ, Bool, List, [], ◌∷◌, length, take, drop, max, nat_lt, Option, Some, None, if◌then◌else◌}
use Rattle.std.specs.Char.{digit_value}
use Rattle.py_literals.specs.declared.number.NumberFront.{NumberFront}
use Rattle.py_literals.specs.declared.number.NumberValue.{NumberValue}
use Rattle.py_literals.specs.declared.number.NumberValue.TheVariants.{Whole, Wide, Float}
use Rattle.py_literals.specs.Grammar.{is_digit_of, base_of, is_exponent_mark, is_sign, is_imaginary_mark, IsNumber, IsInteger, IsFloating}

-- (["_"] digit)*
abbrev pub digits_len : ℕ → List ℕ → ℕ
digits_len base [] = 0
digits_len base (c ∷ []) = if is_digit_of base c then 1 else 0
digits_len base (c ∷ d ∷ ds) =
    if is_digit_of base c then 1 + digits_len base (d ∷ ds) else (
    if (c == 95) && is_digit_of base d then 2 + digits_len base ds else 0)

-- digitpart
abbrev pub digit_part_len : List ℕ → ℕ
digit_part_len [] = 0
digit_part_len (c ∷ cs) = if is_digit_of 10 c then 1 + digits_len 10 cs else 0

-- fraction, or a bare point where digits lead
abbrev pub fraction_len : Bool → List ℕ → ℕ
fraction_len led [] = 0
fraction_len led (c ∷ cs) = if (c == 46) && (led || nat_lt 0 (digit_part_len cs)) then 1 + digit_part_len cs else 0

-- ["+" | "-"] digitpart
abbrev pub signed_len : List ℕ → ℕ
signed_len [] = 0
signed_len (c ∷ cs) = if is_sign c then (if nat_lt 0 (digit_part_len cs) then 1 + digit_part_len cs else 0) else digit_part_len (c ∷ cs)

-- exponent
abbrev pub exponent_len : List ℕ → ℕ
exponent_len [] = 0
exponent_len (c ∷ cs) = if is_exponent_mark c && nat_lt 0 (signed_len cs) then 1 + signed_len cs else 0

-- "j" | "J"
abbrev pub imaginary_len : List ℕ → ℕ
imaginary_len [] = 0
imaginary_len (c ∷ cs) = if is_imaginary_mark c then 1 else 0

-- what follows the digits and point of a number: [exponent] ["j" | "J"]
abbrev pub suffix_len : List ℕ → ℕ
suffix_len cs = exponent_len cs + imaginary_len (drop (exponent_len cs) cs)

-- [digitpart] [fraction], with n digits: the fraction, the exponent and the mark behind them
abbrev pub behind_digits_len : ℕ → List ℕ → ℕ
behind_digits_len n cs =
    let f = fraction_len (nat_lt 0 n) cs in
    if nat_lt 0 (n + f) then f + suffix_len (drop f cs) else 0

-- a floating point or an imaginary number
abbrev pub float_len : List ℕ → ℕ
float_len cs =
    let n = digit_part_len cs in
    let m = behind_digits_len n (drop n cs) in
    if nat_lt 0 m then n + m else 0

-- decinteger
abbrev pub decimal_len : List ℕ → ℕ
decimal_len [] = 0
decimal_len (c ∷ cs) = if c == 48 then 1 + digits_len 1 cs else digit_part_len (c ∷ cs)

-- the letter c of a base and the digits behind it
unfoldable pub lettered_len : ℕ → List ℕ → ℕ
lettered_len c cs = if nat_lt 0 (digits_len (base_of c) cs) then 1 + digits_len (base_of c) cs else 0

-- what may stand behind the '0' of a bininteger, octinteger or hexinteger
abbrev pub behind_zero_len : List ℕ → ℕ
behind_zero_len [] = 0
behind_zero_len (c ∷ cs) = lettered_len c cs

-- bininteger, octinteger or hexinteger
abbrev pub based_len : List ℕ → ℕ
based_len [] = 0
based_len (c ∷ cs) = if (c == 48) && nat_lt 0 (behind_zero_len cs) then 1 + behind_zero_len cs else 0

-- the longest front that is a number, 0 where none is
abbrev pub number_len : List ℕ → ℕ
number_len cs = max (based_len cs) (max (decimal_len cs) (float_len cs))

-- the value of digits behind others of value v, each '_' skipped
abbrev pub value_after : ℕ → ℕ → List ℕ → ℕ
value_after base v [] = v
value_after base v (c ∷ cs) = value_after base (if c == 95 then v else v * base + digit_value c) cs

-- a whole number of this value, which is wide above 2^127 - 1
abbrev pub whole : ℕ → NumberValue
whole v = if nat_lt v (2 ^ 127) then Whole v else Wide

-- the value of an integer of all of these characters
abbrev pub integer_value : List ℕ → ℕ
integer_value [] = 0
integer_value (c ∷ []) = value_after 10 0 (c ∷ [])
integer_value (c ∷ d ∷ ds) = if nat_lt 0 (base_of d) then value_after (base_of d) 0 ds else value_after 10 0 (c ∷ d ∷ ds)

-- what the number at the front stands for
abbrev pub number_value : List ℕ → NumberValue
number_value cs = if float_len cs == number_len cs then Float else whole (integer_value (take (number_len cs) cs))

-- the number at the front of a text
abbrev pub number : List ℕ → Option NumberFront
number cs = if nat_lt 0 (number_len cs) then Some (record { len = number_len cs; value = number_value cs }) else None

-- The front of this length is a number unless it is empty, no longer front is one, and the value has its kind.
pub record IsLongestNumber (cs : List ℕ) : Type 0 where
  pub within : number_len cs ≤ length cs
  pub spelled : 0 < number_len cs → IsNumber (take (number_len cs) cs)
  pub longest : (n : ℕ) → n ≤ length cs → IsNumber (take n cs) → n ≤ number_len cs
  pub floating : 0 < number_len cs → number_value cs ≡ Float → IsFloating (take (number_len cs) cs)
  pub integer : 0 < number_len cs → number_value cs ≢ Float → IsInteger (take (number_len cs) cs)
