-- What is spelled is read, whatever follows it: the fields.
use Rattle.std.proofs.Common.{◌≡◌, ℕ, ◌+◌, ◌<◌, ◌^◌, Bool, true, false, List, [], ◌∷◌, ◌++◌, length, drop, get_or, All, Ok, refl, sym, ap, ◌∙◌, append_assoc, arith, ltb, leb, eqb, inl, inr}
use Rattle.std.specs.Prelude.{decimal, not, ◌||◌}
use Rattle.std.specs.Char.{is_ascii_digit}
use Rattle.std.specs.List.{list_all}
use Rattle.std.specs.Str.Parse.{digits_value}
use Rattle.std.specs.Str.{all_ascii_digits}
use Rattle.std.proofs.lemmas.Bool.{le-ltb, lt-leb, leb-false, eq-eqb, ne_eqb, cases_lt}
use Rattle.std.proofs.lemmas.Bool.Decides.{nat_tests}
use Rattle.std.proofs.lemmas.List.{take_at, drop_at, get_or_append_left, length-append}
use Rattle.std.proofs.Math.Seq.{get_or-append_seam}
use Rattle.std.proofs.lemmas.List.Sums.{prefix_len_is, AllPass-from_list_all}
use Rattle.std.proofs.lemmas.Fmt.{digits_decimal, digits_value-decimal, decimal_nonempty, first_decimal, length-decimal-le}
use Rattle.script.proofs.Digits.{own}
use Rattle.script.specs.declared.fields.Kind.{Kind}
use Rattle.script.specs.declared.fields.Kind.TheVariants as kinds
use Rattle.script.specs.Grammar.{IsPath, IsLine, IsWithin, line_end, is_path_byte}
use Rattle.script.specs.Reading.{has, span, rest_at, path_at, is_numeral, number_at, line_at}

-- bytes of the kind, and one that is not, are spanned
pub span_again : (kind : Kind) (field rest : List ℕ) (end : ℕ) → All (λ b. has kind b ≡ true) field → has kind end ≡ false → span kind (field ++ end ∷ rest) ≡ length field
span_again kind field rest end all other =
    prefix_len_is (has kind) (field ++ end ∷ rest) (length field) 0 (omega (arith, length-append field (end ∷ rest)))
    (λ k lt. rw (get_or_append_left field (end ∷ rest) 0 k lt) (all k 0 lt))
    (λ lt. rw (get_or-append_seam field end rest 0) other)

pub seam_drop : (field rest : List ℕ) (end : ℕ) → drop (length field + 1) (field ++ end ∷ rest) ≡ rest
seam_drop field rest end =
    ap (drop (length field + 1)) (sym (append_assoc field (end ∷ []) rest))
    ∙ drop_at (field ++ end ∷ []) rest (length field + 1) (length-append field (end ∷ []))

pub rest_again : (field rest : List ℕ) (end : ℕ) → rest_at (length field) end (field ++ end ∷ rest) ≡ Ok rest
rest_again field rest end =
    let long : leb (length (field ++ end ∷ rest)) (length field) ≡ false = lt-leb (length (field ++ end ∷ rest)) (length field) (omega (arith, length-append field (end ∷ rest))) in
    let seam : eqb (get_or (field ++ end ∷ rest) (length field) 0) end ≡ true = eq-eqb _ _ (get_or-append_seam field end rest 0) in
    rw (long, seam, seam_drop field rest end) refl

pub path_again : (path rest : List ℕ) (end : ℕ) → IsPath path → is_path_byte end ≡ false → path_at end (path ++ end ∷ rest) ≡ Ok (path, rest)
unfolding path_at
path_again path rest end is other =
    let some : eqb (length path) 0 ≡ false = ne_eqb _ _ (λ e. absurd (omega (arith, is.len.0, e))) in
    let short : ltb 255 (length path) ≡ false = le-ltb 255 (length path) is.len.1 in
    rw (span_again kinds.Path path rest end is.bytes other, some, short, rest_again path rest end, take_at path (end ∷ rest) (length path) refl) refl

pub line_again : (line rest : List ℕ) (limit : ℕ) → IsLine limit line → line_at limit (line ++ line_end ∷ rest) ≡ Ok (line, rest)
unfolding line_at
line_again line rest limit is =
    let short : ltb limit (length line) ≡ false = le-ltb limit (length line) is.len in
    let all : All (λ b. not (eqb b line_end) ≡ true) line = λ k d lt. ap not (ne_eqb _ _ (is.bytes k d lt)) in
    rw (span_again kinds.Line line rest line_end all refl, short, rest_again line rest line_end, take_at line (line_end ∷ rest) (length line) refl) refl

-- ---- numbers

pub as_list_all : (ds : List ℕ) → all_ascii_digits ds ≡ true → list_all is_ascii_digit ds ≡ true
as_list_all [] h = refl
as_list_all (d ∷ ds) h = grind (arith, as_list_all ds, nat_tests)

pub digits_all : (ds : List ℕ) → all_ascii_digits ds ≡ true → All (λ b. is_ascii_digit b ≡ true) ds
digits_all ds h = AllPass-from_list_all is_ascii_digit ds (as_list_all ds h)

-- a test that one of two holds
either : (a b : Bool) (h : (a ≡ false) → b ≡ true) → a || b ≡ true
either true b h = refl
either false b h = h refl

-- the numeral of a number is one
numeral_again : (n : ℕ) (tail : List ℕ) → n < 2 ^ 64 → is_numeral (decimal n ++ tail) (length (decimal n)) ≡ true
numeral_again n tail small =
    either (leb (length (decimal n)) 1) (not (eqb (get_or (decimal n ++ tail) 0 0) 48)) (λ long.
    let above : 1 < length (decimal n) = leb-false (length (decimal n)) 1 long in
    let some : 0 < length (decimal n) = omega arith in
    let positive : 0 < n = elim (cases_lt n 1) [ inl lt ↦ absurd (omega (arith, length-decimal-le 1 n (omega arith) (omega arith) small)) | inr le ↦ omega arith ] in
    ap not (ne_eqb _ _ (λ e. absurd (omega (arith, first_decimal n positive small, sym (get_or_append_left (decimal n) tail 0 0 some) ∙ e)))))

pub number_again : (low high n end : ℕ) (rest : List ℕ) → n < 2 ^ 64 → IsWithin low high n → is_ascii_digit end ≡ false → number_at low high end (decimal n ++ end ∷ rest) ≡ Ok (n, rest)
unfolding number_at
number_again low high n end rest small within other =
    let digits : all_ascii_digits (decimal n) ≡ true = digits_decimal own n small in
    let some : eqb (length (decimal n)) 0 ≡ false = ne_eqb _ _ (λ e. absurd (omega (arith, decimal_nonempty n small, e))) in
    let value : digits_value 10 (decimal n) ≡ n = digits_value-decimal own n small in
    let up : ltb n low ≡ false = le-ltb n low within.0 in
    let down : ltb high n ≡ false = le-ltb high n within.1 in
    rw (span_again kinds.Digit (decimal n) rest end (digits_all (decimal n) digits) other, some, numeral_again n (end ∷ rest) small, rest_again (decimal n) rest end, take_at (decimal n) (end ∷ rest) (length (decimal n)) refl, value, up, down) refl
