-- Where a list of qualified names has no two that are equal, names and their places are one to one.
use Rattle.std.proofs.Common.{◌≡◌, ℕ, ◌<◌, Bool, true, false, List, ◌∷◌, [], ◌++◌, length, get_or, Some, Contains, refl, sym, ap, ◌∙◌, true≢false, inl, inr, arith, cond}
use Rattle.std.proofs.lemmas.Bool.{cases_lt}
use Rattle.std.proofs.lemmas.List.Quantifiers.{position-Some}
use Rattle.std.proofs.lemmas.Map.Keys.{apart_from_distinct, any_passes_from_place}
use Rattle.std.proofs.lemmas.Option.{get_or_from_slice_get, slice_get_within, slice_get_read, slice_get-get_or}
use Rattle.std.specs.List.{IsDistinct}
use Rattle.indexmap.proofs.CallerLemmas.{Contains-list_any}
use Rattle.rv_names.specs.Keys.{Parts, parts_equal}
use Rattle.rv_names.specs.Numbering.{IsNumberOf, IsOneToOne, has_number, number_of, with_name}
use Rattle.rv_names.proofs.KeyLemmas.{parts_equal-decides}

itself : (name : Parts) → parts_equal name name ≡ true
itself name = (parts_equal-decides name name).1 refl

-- one name does not stand at two places
apart : (names : List Parts) → IsDistinct parts_equal names → (name : Parts) (j k : ℕ) → j < k → IsNumberOf names name j → IsNumberOf names name k → ⊥
apart names distinct name j k lt at_j at_k =
    let here : get_or names j name ≡ name = get_or_from_slice_get names j name name at_j in
    let there : get_or names k name ≡ name = get_or_from_slice_get names k name name at_k in
    let differ : parts_equal (get_or names j name) (get_or names k name) ≡ false = apart_from_distinct parts_equal names j k name distinct lt (slice_get_within names k name at_k) in
    true≢false (sym (itself name) ∙ (λ i. parts_equal (sym here i) (sym there i)) ∙ differ)

pub IsOneToOne-from_distinct : (names : List Parts) → IsDistinct parts_equal names → IsOneToOne names
IsOneToOne-from_distinct names distinct name j k at_j at_k =
    elim (cases_lt j k) [
      | inl lt ↦ absurd (apart names distinct name j k lt at_j at_k)
      | inr le ↦ elim (cases_lt k j) [ inl lt ↦ absurd (apart names distinct name k j lt at_k at_j) | inr ge ↦ omega arith ]
    ]

-- the place that a search finds has the name
pub IsNumberOf-number_of : (names : List Parts) (name : Parts) (k : ℕ) → number_of names name ≡ Some k → IsNumberOf names name k
IsNumberOf-number_of names name k found =
    let there = position-Some (parts_equal name) names k name found in
    slice_get-get_or names k name there.0 ∙ ap Some (sym ((parts_equal-decides name (get_or names k name)).0 there.1))

pub has_number-from_number : (names : List Parts) (name : Parts) (k : ℕ) → IsNumberOf names name k → has_number names name ≡ true
has_number-from_number names name k at = any_passes_from_place (parts_equal name) names k name at (itself name)

pub has_number-from_Contains : (names : List Parts) (name : Parts) → Contains names name → has_number names name ≡ true
has_number-from_Contains names name member =
    has_number-from_number names name member.0 (slice_get_read names (length names) member.0 name refl member.1 (sym member.2))

pub Contains-from_number : (names : List Parts) (name : Parts) (k : ℕ) → IsNumberOf names name k → Contains names name
Contains-from_number names name k at = (k, slice_get_within names k name at, get_or_from_slice_get names k name name at)

pub has_number-from_absent : (names : List Parts) (name : Parts) → ¬ (Contains names name) → has_number names name ≡ false
has_number-from_absent names name absent = by (has_number names name) refl
  where
    by : (b : Bool) → has_number names name ≡ b → has_number names name ≡ false
    by true there = absurd (absent (Contains-list_any parts_equal (λ x y. (parts_equal-decides x y).0) names name there))
    by false e = e

-- a name that is there changes nothing, and one that is not goes last
pub with_name-known : (names : List Parts) (name : Parts) → has_number names name ≡ true → with_name names name ≡ names
with_name-known names name there = ap (λ b. cond b names (names ++ name ∷ [])) there

pub with_name-new : (names : List Parts) (name : Parts) → has_number names name ≡ false → with_name names name ≡ names ++ name ∷ []
with_name-new names name absent = ap (λ b. cond b names (names ++ name ∷ [])) absent

-- which then has the place after the others
pub IsNumberOf-last : (names : List Parts) (name : Parts) → IsNumberOf (names ++ name ∷ []) name (length names)
IsNumberOf-last [] name = refl
IsNumberOf-last (x ∷ names) name = IsNumberOf-last names name
