-- Fields in std's words.
use Rattle.std.proofs.Common.{◌≡◌, ℕ, ◌<◌, Bool, true, false, List, [], ◌∷◌, take, Ok, Err, refl, ap, ◌∙◌, arith, cond, inl, inr}
use Rattle.std.specs.Prelude.{◌&&◌}
use Rattle.std.specs.Str.{IsAscii, IsUtf8, is_utf8, all_ascii_digits}
use Rattle.std.specs.Char.{is_ascii_digit}
use Rattle.std.specs.List.{take_while}
use Rattle.std.specs.Str.Parse.{digits_value}
use Rattle.std.proofs.lemmas.Bool.{cases_lt}
use Rattle.std.proofs.lemmas.Bool.Decides.{nat_tests}
use Rattle.std.proofs.lemmas.List.{get_or-take, get_or_past, length-take}
use Rattle.std.proofs.lemmas.List.Sums.{take_while-cons, prefix_len_passes}
use Rattle.std.proofs.lemmas.Str.{is_utf8-from_IsUtf8, IsUtf8-from_is_utf8}
use Rattle.std.proofs.lemmas.Str.Parse.{IsNumeralModel, numerals_by_value, tells_all_ascii_digits}
use Rattle.std.proofs.lemmas.Fmt.{IsAscii-from_digits}
use Rattle.script.specs.Grammar.{is_path_byte}
use Rattle.script.specs.declared.fields.Kind.TheVariants as kinds
use Rattle.script.specs.Reading.{span, is_visible, named_as}
use Rattle.script.specs.declared.faults.Fault.TheVariants.{Malformed}

pub own : IsNumeralModel (λ ds. all_ascii_digits ds ≡ true) (digits_value 10)
own = numerals_by_value (λ ds. all_ascii_digits ds ≡ true) tells_all_ascii_digits

pub ascii_digits : (ds : List ℕ) → all_ascii_digits ds ≡ true → IsAscii ds
ascii_digits ds h = IsAscii-from_digits ds (own.to ds h)

-- the digits at the front are digits
pub front_digits : (bs : List ℕ) → all_ascii_digits (take_while is_ascii_digit bs) ≡ true
front_digits [] = refl
front_digits (b ∷ bs) =
    ap all_ascii_digits (take_while-cons is_ascii_digit b bs)
    ∙ elim (is_ascii_digit b) as (λ t. is_ascii_digit b ≡ t → all_ascii_digits (cond t (b ∷ take_while is_ascii_digit bs) []) ≡ true) [
      | true ↦ λ e. ap (λ (t : Bool). t && all_ascii_digits (take_while is_ascii_digit bs)) e ∙ front_digits bs
      | false ↦ λ e. refl
    ] refl

path_small : (b : ℕ) → is_path_byte b ≡ true → b < 128
path_small b h = grind (arith, nat_tests)

-- the path bytes at the front are ASCII
pub front_path : (bs : List ℕ) → IsAscii (take (span kinds.Path bs) bs)
front_path bs i =
    elim (cases_lt i (span kinds.Path bs)) [
      | inl lt ↦ rw (get_or-take (span kinds.Path bs) bs i 0 lt) (path_small _ (prefix_len_passes is_path_byte bs i 0 lt))
      | inr le ↦ rw (get_or_past (take (span kinds.Path bs) bs) i 0 (omega (arith, length-take (span kinds.Path bs) bs))) (omega arith)
    ]

false_utf8 : (bs : List ℕ) (b : Bool) (refuted : IsUtf8 bs → ⊥) → is_utf8 bs ≡ b → b ≡ false
false_utf8 bs true refuted e = absurd (refuted (IsUtf8-from_is_utf8 bs e))
false_utf8 bs false refuted e = refl

-- what is no text is refused as one
pub not_utf8 : (bs : List ℕ) → (IsUtf8 bs → ⊥) → is_utf8 bs ≡ false
not_utf8 bs refuted = false_utf8 bs (is_utf8 bs) refuted refl

and_false : (a b : Bool) → b ≡ false → a && b ≡ false
and_false true b e = e
and_false false b e = refl

both : (a b : Bool) → a ≡ true → b ≡ true → a && b ≡ true
both a b e f = rw (e, f) refl

pub named_refused : (name : List ℕ) → (IsUtf8 name → ⊥) → named_as name ≡ Err Malformed
named_refused name refuted = ap (λ (t : Bool). cond t (Ok name) (Err Malformed)) (and_false (is_visible name) (is_utf8 name) (not_utf8 name refuted))

pub named_given : (name : List ℕ) → is_visible name ≡ true → IsUtf8 name → named_as name ≡ Ok name
named_given name visible text = ap (λ (t : Bool). cond t (Ok name) (Err Malformed)) (both (is_visible name) (is_utf8 name) visible (is_utf8-from_IsUtf8 name text))
