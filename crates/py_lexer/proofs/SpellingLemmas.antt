-- A word of ASCII, as characters and as bytes.
use Rattle.std.proofs.Common.{◌≡◌, ℕ, suc, ◌+◌, ◌<◌, ◌≤◌, Bool, true, false, ◌&&◌, ◌==◌, List, [], ◌∷◌, length, drop, get_or, drop-cons, add-one, encode_utf8_all, refl, sym, ap, true≢false, arith}
use Rattle.std.proofs.lemmas.Str.{encode_ascii}
use Rattle.std.proofs.lemmas.Bool.{and_parts}
use Rattle.std.proofs.lemmas.Bool.Decides.{nat_tests}
use Rattle.std.proofs.lemmas.List.{drop_all}
use Rattle.std.specs.Prelude.{nat_lt}
use Rattle.py_lexer.specs.Spellings.{is_spelled}

pub spelled_bytes : (cs bs : List ℕ) → is_spelled cs bs ≡ true → encode_utf8_all cs ≡ bs
spelled_bytes [] [] s = refl
spelled_bytes [] (b ∷ bs) s = absurd (true≢false (sym s))
spelled_bytes (c ∷ cs) [] s = absurd (true≢false (sym s))
spelled_bytes (c ∷ cs) (b ∷ bs) s =
    let parts = and_parts (nat_lt b 128 && (c == b)) (is_spelled cs bs) s in
    let both = and_parts (nat_lt b 128) (c == b) parts.0 in
    let e : c ≡ b = grind (arith, nat_tests) in
    let low : c < 128 = grind (arith, nat_tests) in
    rw (encode_ascii c low, e, spelled_bytes cs bs parts.1) refl

no_more : (x : Bool) → (x && false) ≡ false
no_more true = refl
no_more false = refl

-- words of different lengths
pub other_len : (cs bs : List ℕ) → (length cs ≡ length bs → ⊥) → is_spelled cs bs ≡ false
other_len [] [] other = absurd (other refl)
other_len [] (b ∷ bs) other = refl
other_len (c ∷ cs) [] other = refl
other_len (c ∷ cs) (b ∷ bs) other = rw (other_len cs bs (λ e. other (ap suc e))) (no_more (nat_lt b 128 && (c == b)))

-- no character is left
pub spelled_end : (cs bs : List ℕ) (i : ℕ) → length cs ≡ length bs → length cs ≤ i → is_spelled (drop i cs) (drop i bs) ≡ true
spelled_end cs bs i e le =
    let le2 : length bs ≤ i = omega (arith, e, le) in
    rw (drop_all i cs le, drop_all i bs le2) refl

-- one more character, which is the same in both
pub spelled_more : (cs bs : List ℕ) (i : ℕ) → i < length cs → length cs ≡ length bs → get_or bs i 0 < 128 → get_or cs i 0 ≡ get_or bs i 0 → is_spelled (drop (i + 1) cs) (drop (i + 1) bs) ≡ is_spelled (drop i cs) (drop i bs)
spelled_more cs bs i h e low same =
    let k : i < length bs = omega (arith, e, h) in
    let t : (nat_lt (get_or bs i 0) 128 && (get_or cs i 0 == get_or bs i 0)) ≡ true = grind (arith, nat_tests) in
    rw (add-one, drop-cons cs i 0 h, drop-cons bs i 0 k, t) refl

-- one more character, which differs, or is none of ASCII
pub spelled_no_more : (cs bs : List ℕ) (i : ℕ) → i < length cs → length cs ≡ length bs → (nat_lt (get_or bs i 0) 128 && (get_or cs i 0 == get_or bs i 0)) ≡ false → is_spelled (drop i cs) (drop i bs) ≡ false
spelled_no_more cs bs i h e t =
    let k : i < length bs = omega (arith, e, h) in
    rw (drop-cons cs i 0 h, drop-cons bs i 0 k, t) refl
