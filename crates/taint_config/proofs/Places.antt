-- The places of names in a list.
use Rattle.std.proofs.Common.{◌≡◌, ℕ, ◌<◌, ◌≤◌, Bool, true, false, cond, List, length, get_or, Option, Some, None, refl, sym, ap, ◌∙◌, arith, true≢false}
use Rattle.std.specs.Prelude.{position}
use Rattle.std.specs.List.{list_any, list_all, position_or_len}
use Rattle.std.specs.Cmp.Lexicographic.{bytes_decides}
use Rattle.std.proofs.lemmas.Bool.{ltb-false}
use Rattle.std.proofs.lemmas.List.Quantifiers.{position-Some}
use Rattle.std.proofs.lemmas.List.Folds.{list_any_none, list_any_at}
use Rattle.std.proofs.lemmas.List.Sums.{fails_before_first, AllPass-from_list_all}
use Rattle.rv_names.specs.Keys.{Bytes, bytes_equal}
use Rattle.taint_config.specs.Kinds.{is_kind}
use Rattle.taint_config.specs.Reading.{place_of}

cond_none : (b : Bool) (k : ℕ) → cond b (Some k) None ≡ None → b ≡ false
cond_none true k h = absurd cc
cond_none false k h = refl

pub absent : (name : Bytes) (names : List Bytes) → position (bytes_equal name) names ≡ None → list_any (bytes_equal name) names ≡ false
absent name names h =
    let past : length names ≤ position_or_len (bytes_equal name) names = ltb-false _ _ (cond_none _ (position_or_len (bytes_equal name) names) h) in
    list_any_none (bytes_equal name) names (λ k d lt. fails_before_first (bytes_equal name) names k d (omega arith))

pub present : (name : Bytes) (names : List Bytes) (k : ℕ) → position (bytes_equal name) names ≡ Some k → (list_any (bytes_equal name) names ≡ true) × (k < length names)
present name names k h =
    let at = position-Some (bytes_equal name) names k name h in
    (list_any_at (bytes_equal name) names k name at.0 at.1, at.0)

no_kind : (name : Bytes) (names : List Bytes) (o : Option ℕ) → list_all is_kind names ≡ true → is_kind name ≡ false → position (bytes_equal name) names ≡ o → None ≡ o
no_kind name names None all not_one at = refl
no_kind name names (Some k) all not_one at =
    let there = position-Some (bytes_equal name) names k name at in
    let same : name ≡ get_or names k name = (bytes_decides name (get_or names k name)).0 there.1 in
    absurd (true≢false (sym (AllPass-from_list_all is_kind names all k name there.0) ∙ ap is_kind (sym same) ∙ not_one))

place_by : (name : Bytes) (names : List Bytes) (b : Bool) → list_all is_kind names ≡ true → is_kind name ≡ b → cond b (position (bytes_equal name) names) None ≡ position (bytes_equal name) names
place_by name names true all is = refl
place_by name names false all is = no_kind name names (position (bytes_equal name) names) all is refl

-- among kinds, a name that is none is found nowhere
pub place_of-kinds : (name : Bytes) (names : List Bytes) → list_all is_kind names ≡ true → place_of names name ≡ position (bytes_equal name) names
place_of-kinds name names all = place_by name names (is_kind name) all refl
