-- Characters that are read as they are: a source without a CR, a body without a backslash, a text in ASCII.
use Rattle.std.proofs.Common.{◌≡◌, ℕ, zero, suc, ◌+◌, ◌<◌, true, false, ◌==◌, List, [], ◌∷◌, ◌++◌, length, drop, get_or, Ok, encode_utf8_all, not, nat_lt, chars, IsAscii, refl, arith}
use Rattle.std.proofs.lemmas.Bool.{and_parts, or_parts, not-true, ltb-true, ne_eqb}
use Rattle.std.proofs.lemmas.Str.{encode_ascii, chars-IsAscii}
use Rattle.std.specs.List.{list_all, list_any}
use Rattle.py_literals.specs.declared.text.StringKind.{StringKind}
use Rattle.py_literals.specs.Escape.{decoded}
use Rattle.py_lexer.specs.Source.{line_ends, without_mark, source_chars, is_plain}
use Rattle.py_lexer.proofs.WordLemmas.{text_turn}

no_returns : (cs : List ℕ) → list_any (λ c. c == 13) cs ≡ false → line_ends false cs ≡ cs
no_returns [] none = refl
no_returns (c ∷ cs) none =
    let parts = or_parts (c == 13) (list_any (λ d. d == 13) cs) none in
    rw (parts.0, no_returns cs parts.1) refl

-- a source of these characters
pub read_as_it_is : (cs : List ℕ) → without_mark cs ≡ cs → list_any (λ c. c == 13) cs ≡ false → source_chars cs ≡ cs
read_as_it_is cs whole none = rw whole (no_returns cs none)

low_plain : (bs : List ℕ) → list_all is_plain bs ≡ true → IsAscii bs
low_plain [] plain i = omega arith
low_plain (b ∷ bs) plain zero = ltb-true b 128 (and_parts (nat_lt b 128) (not (b == 13)) (and_parts (is_plain b) (list_all is_plain bs) plain).0).0
low_plain (b ∷ bs) plain (suc i) = low_plain bs (and_parts (is_plain b) (list_all is_plain bs) plain).1 i

plain_ends : (bs : List ℕ) → list_all is_plain bs ≡ true → line_ends false bs ≡ bs
plain_ends [] plain = refl
plain_ends (b ∷ bs) plain =
    let parts = and_parts (is_plain b) (list_all is_plain bs) plain in
    rw (not-true (b == 13) (and_parts (nat_lt b 128) (not (b == 13)) parts.0).1, plain_ends bs parts.1) refl

plain_start : (bs : List ℕ) → list_all is_plain bs ≡ true → without_mark bs ≡ bs
plain_start [] plain = refl
plain_start (b ∷ bs) plain =
    let low = low_plain (b ∷ bs) plain 0 in
    rw (ne_eqb b 0xFEFF (λ e. omega (arith, low, e))) refl

-- a text of such bytes
pub plain_source : (bs : List ℕ) → list_all is_plain bs ≡ true → source_chars (chars bs) ≡ bs
plain_source bs plain = rw (chars-IsAscii bs (low_plain bs plain), plain_start bs plain) (plain_ends bs plain)

-- a body of these characters
pub own_value : (k : StringKind) (body : List ℕ) → k.formatted ≡ false → list_any (λ c. c == 92) body ≡ false → decoded k body ≡ Ok body
own_value k [] f none = refl
own_value k (c ∷ cs) f none =
    let parts = or_parts (c == 92) (list_any (λ d. d == 92) cs) none in
    rw (parts.0, f, own_value k cs f parts.1) refl

-- one more character of ASCII
pub ascii_turn : (before cs : List ℕ) (i : ℕ) → i < length cs → get_or cs i 0 < 128 → (before ++ get_or cs i 0 ∷ []) ++ encode_utf8_all (drop (i + 1) cs) ≡ before ++ encode_utf8_all (drop i cs)
ascii_turn before cs i h low = rw (encode_ascii (get_or cs i 0) low) at (text_turn before cs i h)
