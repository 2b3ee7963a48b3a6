-- A leaf stands at its number.
use Rattle.std.proofs.Common.{◌≡◌, ℕ, ◌+◌, ◌<◌, suc, Bool, true, false, cond, ◌||◌, not, List, [], ◌∷◌, length, Some, refl, sym, ap, ◌∙◌, true≢false, arith, slice_get}
use Rattle.std.specs.List.{list_any, position_or_len}
use Rattle.std.proofs.lemmas.Bool.Decides.{nat_tests}
use Rattle.rv_names.specs.Keys.{Parts, parts_equal}
use Rattle.rv_names.proofs.KeyLemmas.{parts_equal-decides}
use Rattle.taint_config.specs.Config.{ConfigParts}
use Rattle.pysa_models.specs.Leaves.{AreLeaves, is_leaf}
use Rattle.pysa_models.specs.Models.{ModelAt, leaf_number}

one_more : (n : ℕ) → 1 + n ≡ suc n
one_more n = omega arith

within : (q : Parts) (xs : List Parts) → list_any (parts_equal q) xs ≡ true → position_or_len (parts_equal q) xs < length xs
within q [] h = absurd (true≢false (sym h))
within q (x ∷ xs) h = by (within q xs) (parts_equal q x) h
  where
    by : (list_any (parts_equal q) xs ≡ true → position_or_len (parts_equal q) xs < length xs)
        → (b : Bool) → (b || list_any (parts_equal q) xs) ≡ true → cond (not b) (1 + position_or_len (parts_equal q) xs) 0 < suc (length xs)
    by later true k = omega arith
    by later false k = let there : position_or_len (parts_equal q) xs < length xs = later k in omega arith

stands : (q : Parts) (xs : List Parts) → list_any (parts_equal q) xs ≡ true → slice_get xs (position_or_len (parts_equal q) xs) ≡ Some q
stands q [] h = absurd (true≢false (sym h))
stands q (x ∷ xs) h = by (stands q xs) (parts_equal q x) refl h
  where
    by : (list_any (parts_equal q) xs ≡ true → slice_get xs (position_or_len (parts_equal q) xs) ≡ Some q)
        → (b : Bool) → parts_equal q x ≡ b → (b || list_any (parts_equal q) xs) ≡ true
        → slice_get (x ∷ xs) (cond (not b) (1 + position_or_len (parts_equal q) xs) 0) ≡ Some q
    by later true e k = ap Some (sym ((parts_equal-decides q x).0 e))
    by later false e k = ap (slice_get (x ∷ xs)) (one_more (position_or_len (parts_equal q) xs)) ∙ later k

numbered : (q : Parts) (xs : List Parts) → list_any (parts_equal q) xs ≡ true → leaf_number xs q ≡ position_or_len (parts_equal q) xs
numbered q xs h = let inside = within q xs h in grind (arith, nat_tests)

pub leaf_at_number : (c : ConfigParts) (models : List ModelAt) (leaves : List Parts) (q : Parts) → AreLeaves c models leaves → is_leaf c models q ≡ true → slice_get leaves (leaf_number leaves q) ≡ Some q
leaf_at_number c models leaves q are h =
    let there : list_any (parts_equal q) leaves ≡ true = are.members q ∙ h in
    ap (slice_get leaves) (numbered q leaves there) ∙ stands q leaves there
