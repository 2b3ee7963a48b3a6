-- A walk along the list, place by place, that looks for the first id that isn't in a set.
use Rattle.std.proofs.Common.{◌≡◌, ℕ, ◌-◌, ◌<◌, suc, zero, List, ◌∷◌, length, slice_index, refl, sym, ◌∙◌, ap, subst, arith, Bool, true, false, not, cond, Option, Some, None}
use Rattle.std.specs.Prelude.{find}
use Rattle.ready_list.specs.Listed.{is_set}
use Rattle.ready_list.specs.Ring.{following, LeadsThrough, IsList}

-- the first id that isn't in the set
abbrev pub first_clear : List Bool → List ℕ → Option ℕ
first_clear flags ids = find (λ id. not (is_set flags id)) ids

-- a walk has come to a place, from which `left` ids are left: the answer is among them
pub record IsWalk (next ids : List ℕ) (flags : List Bool) (left place : ℕ) : Type 0 where
  pub inside : place < length next
  pub leads : LeadsThrough next place (following next left place)
  pub same : first_clear flags (following next left place) ≡ first_clear flags ids

pub walk-start : (next previous : List ℕ) (flags : List Bool) (len : ℕ) → IsList next previous len
    → IsWalk next (following next len 0) flags len 0
walk-start next previous flags len l = record { inside = l.ring.head; leads = l.ring.leads; same = refl }

-- what the place leads to is the place of an id
pub walk-id : (next previous ids : List ℕ) (flags : List Bool) (len left place : ℕ) → IsList next previous len
    → IsWalk next ids flags left place → 0 < left → (0 < slice_index next place) × (slice_index next place < length next)
walk-id next previous ids flags len zero place l w h = absurd (omega arith)
walk-id next previous ids flags len (suc m) place l w h =
    (omega (arith, w.leads.0), l.ring.back.within place w.inside)

pub walk-next : (next previous ids : List ℕ) (flags : List Bool) (len left place m : ℕ) → IsList next previous len
    → IsWalk next ids flags left place → left ≡ suc m → is_set flags (slice_index next place - 1) ≡ true
    → IsWalk next ids flags m (slice_index next place)
walk-next next previous ids flags len left place m l walk e t =
    let w : IsWalk next ids flags (suc m) place = subst (λ (k : ℕ). IsWalk next ids flags k place) e walk in
    let after = slice_index next place in
    let rest = following next m after in
    let skips : first_clear flags ((after - 1) ∷ rest) ≡ first_clear flags rest =
    ap (λ (b : Bool). cond (not b) (Some (after - 1)) (first_clear flags rest)) t in
    record {
      inside = l.ring.back.within place w.inside;
      leads = subst (λ (k : ℕ). LeadsThrough next k rest) (sym w.leads.0) w.leads.1;
      same = sym skips ∙ w.same;
    }

pub walk-found : (next ids : List ℕ) (flags : List Bool) (left place : ℕ) → IsWalk next ids flags left place → 0 < left
    → is_set flags (slice_index next place - 1) ≡ false → Some (slice_index next place - 1) ≡ first_clear flags ids
walk-found next ids flags zero place w h t = absurd (omega arith)
walk-found next ids flags (suc m) place w h t =
    let after = slice_index next place in
    let rest = following next m after in
    let found : first_clear flags ((after - 1) ∷ rest) ≡ Some (after - 1) =
    ap (λ (b : Bool). cond (not b) (Some (after - 1)) (first_clear flags rest)) t in
    sym found ∙ w.same

pub walk-end : (next ids : List ℕ) (flags : List Bool) (left place : ℕ) → IsWalk next ids flags left place → left ≡ 0
    → None ≡ first_clear flags ids
walk-end next ids flags left place walk e = (subst (λ (k : ℕ). IsWalk next ids flags k place) e walk).same
