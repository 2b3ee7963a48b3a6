-- What stands in a map made of a list.
use Rattle.std.proofs.Common.{◌≡◌, ℕ, ◌≤◌, ◌<◌, Bool, true, false, cond, List, [], ◌∷◌, ◌++◌, Option, Some, None, refl, ap, sym, subst, inl, inr, ◌⊎◌, arith, ◌&&◌, ◌==◌, suc}
use Rattle.std.specs.Prelude.{T}
use Rattle.std.specs.Ordering.{is_eq, is_lt, eq_by_cmp}
use Rattle.std.specs.declared.cmp.Ordering.{Ordering}
use Rattle.std.specs.declared.cmp.Ordering.TheVariants.{Less, Equal, Greater}
use Rattle.std.specs.Cmp.{tied_itself}
use Rattle.std.specs.FinMap.{get, entries, entries_sorted, is_sorted, find, get-entries, get-empty, get-insert, same_map}
use Rattle.std.specs.FinMap.Entries.{below_all}
use Rattle.std.proofs.lemmas.Bool.{cases_lt}
use Rattle.std.proofs.lemmas.Bool.Decides.{Decides-eqb}
use Rattle.path_trees.specs.declared.spots.Spot.{Spot}
use Rattle.path_trees.specs.Spots.{spot_order}
use Rattle.path_trees.specs.Trees.{TreeMap, IsWithin, Stands, Below, lesser, with_entry, least_of}
use Rattle.path_trees.proofs.Orders.{spot_order-total, spot_order-exact}

-- the list has the spot at a distance not greater
abbrev pub Listed : List (Spot × ℕ) → Spot → ℕ → Type 0
Listed [] s d = ⊥
Listed (e ∷ es) s d = ((e.0 ≡ s) × (e.1 ≤ d)) ⊎ Listed es s d

pub listed_left : (xs ys : List (Spot × ℕ)) (s : Spot) (d : ℕ) → Listed xs s d → Listed (xs ++ ys) s d
listed_left [] ys s d h = absurd h
listed_left (x ∷ xs) ys s d (inl p) = inl p
listed_left (x ∷ xs) ys s d (inr p) = inr (listed_left xs ys s d p)

pub listed_right : (xs ys : List (Spot × ℕ)) (s : Spot) (d : ℕ) → Listed ys s d → Listed (xs ++ ys) s d
listed_right [] ys s d h = h
listed_right (x ∷ xs) ys s d h = inr (listed_right xs ys s d h)

pub listed_split : (xs ys : List (Spot × ℕ)) (s : Spot) (d : ℕ) → Listed (xs ++ ys) s d → Listed xs s d ⊎ Listed ys s d
listed_split [] ys s d h = inr h
listed_split (x ∷ xs) ys s d (inl p) = inl (inl p)
listed_split (x ∷ xs) ys s d (inr p) = elim (listed_split xs ys s d p) [ inl a ↦ inl (inr a) | inr b ↦ inr b ]

-- a test of spots that holds means that they are one
pub tied : (a b : Spot) → eq_by_cmp spot_order a b ≡ true → a ≡ b
tied a b h = spot_order-exact a b (go (spot_order a b) h)
  where
    go : (r : Ordering) → is_eq r ≡ true → r ≡ Equal
    go Less h = absurd (cc)
    go Equal h = refl
    go Greater h = absurd (cc)

-- and one spot passes it
pub tied_same : (a b : Spot) → a ≡ b → eq_by_cmp spot_order a b ≡ true
tied_same a b h = subst (λ (z : Spot). eq_by_cmp spot_order a z ≡ true) h (ap is_eq (tied_itself spot_order-total a))

within_lesser : (d : ℕ) (o : Option ℕ) (e : ℕ) → IsWithin (Some (lesser d o)) e → (d ≤ e) ⊎ IsWithin o e
within_lesser d None e h = inl h
within_lesser d (Some n) e h = go (cases_lt d n)
  where
    go : (d < n) ⊎ (n ≤ d) → (d ≤ e) ⊎ (n ≤ e)
    go (inl p) = inl (omega arith)
    go (inr p) = inr (omega arith)

lesser_first : (d : ℕ) (o : Option ℕ) (e : ℕ) → d ≤ e → lesser d o ≤ e
lesser_first d None e h = h
lesser_first d (Some n) e h = omega arith

lesser_second : (d : ℕ) (o : Option ℕ) (e : ℕ) → IsWithin o e → lesser d o ≤ e
lesser_second d None e h = absurd h
lesser_second d (Some n) e h = omega arith

-- a bool, with which it is
pub which : (b : Bool) → (b ≡ true) ⊎ (b ≡ false)
which true = inl refl
which false = inr refl

pub not_zero : (n : ℕ) → (suc n == 0) ≡ false
not_zero n = go (which (suc n == 0))
  where
    go : ((suc n == 0) ≡ true) ⊎ ((suc n == 0) ≡ false) → (suc n == 0) ≡ false
    go (inl p) = absurd (let q = (Decides-eqb (suc n) 0).0 p in omega arith)
    go (inr p) = p

-- what stands once an entry is added
pub entry_stands : (t : TreeMap) (s : Spot) (d : ℕ) (q : Spot) (e : ℕ) → Stands (with_entry t s d) q e → ((s ≡ q) × (d ≤ e)) ⊎ Stands t q e
entry_stands t s d q e h = go (which (eq_by_cmp spot_order q s))
  where
    k : IsWithin (cond (eq_by_cmp spot_order q s) (Some (lesser d (get t s))) (get t q)) e
    k = subst (λ (o : Option ℕ). IsWithin o e) (get-insert spot_order-total t s (lesser d (get t s)) q) h

    go : (eq_by_cmp spot_order q s ≡ true) ⊎ (eq_by_cmp spot_order q s ≡ false) → ((s ≡ q) × (d ≤ e)) ⊎ Stands t q e
    go (inl p) =
        let same = tied q s p in
        elim (within_lesser d (get t s) e (subst (λ (b : Bool). IsWithin (cond b (Some (lesser d (get t s))) (get t q)) e) p k)) [
          | inl l ↦ inl (sym same, l)
          | inr w ↦ inr (subst (λ (z : Spot). IsWithin (get t z) e) (sym same) w)
        ]
    go (inr p) = inr (subst (λ (b : Bool). IsWithin (cond b (Some (lesser d (get t s))) (get t q)) e) p k)

pub stands_entry : (t : TreeMap) (s : Spot) (d : ℕ) (q : Spot) (e : ℕ) → ((s ≡ q) × (d ≤ e)) ⊎ Stands t q e → Stands (with_entry t s d) q e
stands_entry t s d q e h = subst (λ (o : Option ℕ). IsWithin o e) (sym (get-insert spot_order-total t s (lesser d (get t s)) q)) (go h (which (eq_by_cmp spot_order q s)))
  where
    go : ((s ≡ q) × (d ≤ e)) ⊎ Stands t q e → (eq_by_cmp spot_order q s ≡ true) ⊎ (eq_by_cmp spot_order q s ≡ false) → IsWithin (cond (eq_by_cmp spot_order q s) (Some (lesser d (get t s))) (get t q)) e
    go (inl p) w = subst (λ (b : Bool). IsWithin (cond b (Some (lesser d (get t s))) (get t q)) e) (sym (tied_same q s (sym p.0))) (lesser_first d (get t s) e p.1)
    go (inr p) (inl w) =
        subst (λ (b : Bool). IsWithin (cond b (Some (lesser d (get t s))) (get t q)) e) (sym w)
        (lesser_second d (get t s) e (subst (λ (z : Spot). IsWithin (get t z) e) (tied q s w) p))
    go (inr p) (inr w) = subst (λ (b : Bool). IsWithin (cond b (Some (lesser d (get t s))) (get t q)) e) (sym w) p

-- what stands in the least map of a list is what is listed
pub least_listed : (es : List (Spot × ℕ)) (s : Spot) (d : ℕ) → Stands (least_of es) s d → Listed es s d
least_listed [] s d h = subst (λ (o : Option ℕ). IsWithin o d) (get-empty spot_order s) h
least_listed (e ∷ es) s d h = elim (entry_stands (least_of es) e.0 e.1 s d h) [ inl p ↦ inl p | inr p ↦ inr (least_listed es s d p) ]

pub listed_least : (es : List (Spot × ℕ)) (s : Spot) (d : ℕ) → Listed es s d → Stands (least_of es) s d
listed_least [] s d h = absurd h
listed_least (e ∷ es) s d (inl p) = stands_entry (least_of es) e.0 e.1 s d (inl p)
listed_least (e ∷ es) s d (inr p) = stands_entry (least_of es) e.0 e.1 s d (inr (listed_least es s d p))

first_of_both : (a b : Bool) → T (a && b) → T a
first_of_both true b p = tt
first_of_both false b p = p

second_of_both : (a b : Bool) → T (a && b) → T b
second_of_both true b p = p
second_of_both false b p = absurd p

-- a spot below all of a list is not in it
pub listed_apart : (k : Spot) (es : List (Spot × ℕ)) (d : ℕ) → T (below_all spot_order k es) → Listed es k d → ⊥
listed_apart k [] d h l = l
listed_apart k (e ∷ es) d h (inl p) =
    subst (λ r. T (is_lt r)) (tied_itself spot_order-total k) (subst (λ (z : Spot). T (is_lt (spot_order k z))) p.0 (first_of_both _ _ h))
listed_apart k (e ∷ es) d h (inr p) = listed_apart k es d (second_of_both _ _ h) p

-- what is found in a list in order is what is listed
pub found_listed : (es : List (Spot × ℕ)) (s : Spot) (d : ℕ) → IsWithin (find spot_order s es) d → Listed es s d
found_listed [] s d h = h
found_listed (e ∷ es) s d h = go (found_listed es s d) (which (eq_by_cmp spot_order s e.0))
  where
    go : (IsWithin (find spot_order s es) d → Listed es s d) → (eq_by_cmp spot_order s e.0 ≡ true) ⊎ (eq_by_cmp spot_order s e.0 ≡ false) → ((e.0 ≡ s) × (e.1 ≤ d)) ⊎ Listed es s d
    go more (inl p) = inl (sym (tied s e.0 p), subst (λ (b : Bool). IsWithin (cond b (Some e.1) (find spot_order s es)) d) p h)
    go more (inr p) = inr (more (subst (λ (b : Bool). IsWithin (cond b (Some e.1) (find spot_order s es)) d) p h))

pub listed_found : (es : List (Spot × ℕ)) (s : Spot) (d : ℕ) → T (is_sorted spot_order es) → Listed es s d → IsWithin (find spot_order s es) d
listed_found [] s d o h = h
listed_found (e ∷ es) s d o (inl p) = subst (λ (b : Bool). IsWithin (cond b (Some e.1) (find spot_order s es)) d) (sym (tied_same s e.0 (sym p.0))) p.1
listed_found (e ∷ es) s d o (inr p) = go (listed_found es s d (second_of_both _ _ o) p) (which (eq_by_cmp spot_order s e.0))
  where
    go : IsWithin (find spot_order s es) d → (eq_by_cmp spot_order s e.0 ≡ true) ⊎ (eq_by_cmp spot_order s e.0 ≡ false) → IsWithin (cond (eq_by_cmp spot_order s e.0) (Some e.1) (find spot_order s es)) d
    go more (inl w) = absurd (listed_apart e.0 es d (first_of_both _ _ o) (subst (λ (z : Spot). Listed es z d) (tied s e.0 w) p))
    go more (inr w) = subst (λ (b : Bool). IsWithin (cond b (Some e.1) (find spot_order s es)) d) (sym w) more

-- what stands in a tree is what its entries list
pub stands_listed : (t : TreeMap) (s : Spot) (d : ℕ) → Stands t s d → Listed (entries t) s d
stands_listed t s d h = found_listed (entries t) s d (subst (λ (o : Option ℕ). IsWithin o d) (get-entries t s) h)

pub listed_stands : (t : TreeMap) (s : Spot) (d : ℕ) → Listed (entries t) s d → Stands t s d
listed_stands t s d h = subst (λ (o : Option ℕ). IsWithin o d) (sym (get-entries t s)) (listed_found (entries t) s d (entries_sorted t) h)

-- two distances that are within the same are one
one_distance : (a b : Option ℕ) → ((d : ℕ) → IsWithin a d → IsWithin b d) → ((d : ℕ) → IsWithin b d → IsWithin a d) → a ≡ b
one_distance None None h k = refl
one_distance None (Some n) h k = absurd (k n (omega arith))
one_distance (Some m) None h k = absurd (h m (omega arith))
one_distance (Some m) (Some n) h k = let p : n ≤ m = h m (omega arith) in let q : m ≤ n = k n (omega arith) in ap Some (omega arith)

pub below_refl : (t : TreeMap) → Below t t
below_refl t = record { at = λ s d h. h }

pub below_trans : {t u v : TreeMap} → Below t u → Below u v → Below t v
below_trans p q = record { at = λ s d h. q.at s d (p.at s d h) }

pub below_antisymm : (t u : TreeMap) → Below t u → Below u t → t ≡ u
below_antisymm t u p q = same_map spot_order-total spot_order-exact t u (λ s. one_distance (get t s) (get u s) (p.at s) (q.at s))
