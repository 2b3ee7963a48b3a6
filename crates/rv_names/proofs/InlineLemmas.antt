-- Texts of ASCII: their characters are their bytes.
use Rattle.std.proofs.Common.{◌≡◌, ℕ, zero, suc, ◌+◌, ◌<◌, ◌≤◌, List, [], ◌∷◌, length, take, set, get_or, chars, encode_utf8_all, refl, sym, ap, ◌∙◌, arith}
use Rattle.std.proofs.lemmas.List.{take_more_set, take_all, take-take}
use Rattle.std.proofs.lemmas.Grind.{take_at_read}
use Rattle.std.proofs.lemmas.Str.{IsAscii-take, encodes-IsAscii, chars-IsAscii, IsAscii-append, IsUtf8-from_ascii}
use Rattle.std.proofs.lemmas.Str.Ascii.{All-from_ascii}
use Rattle.std.specs.Prelude.{IsAscii, IsUtf8, IsTrue}
use Rattle.unicode_normalization.specs.Forms.{Nfkc}
use Rattle.unicode_normalization.proofs.FormsLemmas.{normalize-ascii}
use Rattle.rv_names.specs.Identifier.{IsIdentifier, is_spelled_as_identifier}

one_ascii : (x : ℕ) → x < 128 → IsAscii (x ∷ [])
one_ascii x low zero = low
one_ascii x low (suc i) = omega arith

-- one more character, which is of ASCII
pub ascii_turn : (text : List ℕ) (i : ℕ) → i < length text → get_or text i 0 < 128 → IsAscii (take i text) → IsAscii (take (i + 1) text)
ascii_turn text i h low ascii = rw ((take_at_read text i 0 h).1) (IsAscii-append (take i text) (get_or text i 0 ∷ []) ascii (one_ascii (get_or text i 0) low))

-- one more byte, which is the character
pub byte_turn : (text bytes : List ℕ) (i x : ℕ) → i < length text → i < length bytes → x ≡ get_or text i 0 → take i bytes ≡ take i text → take (i + 1) (set bytes i x) ≡ take (i + 1) text
byte_turn text bytes i x h k e same = take_more_set bytes i x k ∙ rw ((take_at_read text i 0 h).1, same, e) refl

-- all characters are of ASCII
pub all_ascii : (text : List ℕ) (i : ℕ) → length text ≤ i → IsAscii (take i text) → IsAscii text
all_ascii text i h ascii = rw (take_all i text h) at ascii

-- as many bytes as there are characters
pub front_same : (text bytes : List ℕ) (i : ℕ) → length text ≤ i → i ≤ length text → take i bytes ≡ take i text → take (length text) bytes ≡ text
front_same text bytes i le ge same =
    let e : length text ≡ i = omega arith in
    rw e (same ∙ take_all i text le)

-- the bytes of such a text
pub bytes_utf8 : (text bytes : List ℕ) → bytes ≡ text → IsAscii text → IsUtf8 bytes
bytes_utf8 text bytes e ascii = rw e (IsUtf8-from_ascii text ascii)

pub bytes_encode : (text bytes : List ℕ) → bytes ≡ text → IsAscii text → bytes ≡ encode_utf8_all text
bytes_encode text bytes e ascii = e ∙ sym (encodes-IsAscii text ascii)

-- it is in NFKC as it stands
pub ascii_identifier : (text : List ℕ) → IsAscii text → IsTrue (is_spelled_as_identifier text) → IsIdentifier text
ascii_identifier text ascii spelled = record { spelled = spelled; normal = normalize-ascii Nfkc text (All-from_ascii text ascii) }

-- and so are the characters of its bytes
pub read_identifier : (text bytes : List ℕ) → bytes ≡ encode_utf8_all text → IsAscii text → IsTrue (is_spelled_as_identifier text) → IsIdentifier (chars bytes)
read_identifier text bytes e ascii spelled =
    rw (e, encodes-IsAscii text ascii, chars-IsAscii text ascii) (ascii_identifier text ascii spelled)

-- the first so many bytes of those of a longer front
pub front_of : (text bytes : List ℕ) (n i : ℕ) → n ≤ i → take i bytes ≡ take i text → take n bytes ≡ take n text
front_of text bytes n i le same =
    let short : take n (take i bytes) ≡ take n (take i text) = ap (λ (xs : List ℕ). take n xs) same in
    sym (take-take n i bytes le) ∙ (short ∙ take-take n i text le)

pub front_ascii : (text : List ℕ) (n i : ℕ) → n ≤ i → IsAscii (take i text) → IsAscii (take n text)
front_ascii text n i le ascii = rw (take-take n i text le) at (IsAscii-take (take i text) n ascii)
