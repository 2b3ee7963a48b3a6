-- The map of a list of entries in order, its parts, and what a tree holds.
use Rattle.std.proofs.Common.{◌≡◌, ℕ, ◌≤◌, Bool, true, false, cond, List, [], ◌∷◌, ◌++◌, Option, Some, refl, ap, ◌∙◌, sym, subst, inl, inr, ◌⊎◌, arith, zero, suc, take, drop, append-nil, length, ◌==◌}
use Rattle.std.specs.Prelude.{T}
use Rattle.std.specs.Ordering.{eq_by_cmp}
use Rattle.std.specs.FinMap.{empty, is_sorted, find, get-from_sorted, get-empty}
use Rattle.path_trees.specs.declared.spots.Spot.{Spot}
use Rattle.path_trees.specs.declared.spots.Entry.{Entry}
use Rattle.path_trees.specs.declared.moves.Move.{Move}
use Rattle.path_trees.specs.declared.moves.Move.TheVariants.{Same}
use Rattle.path_trees.specs.Spots.{spot_order, IsHeldSpot}
use Rattle.path_trees.specs.Moves.{move_spot, shift}
use Rattle.path_trees.specs.Trees.{TreeMap, IsWithin, Stands, with_entry, least_of, pairs_of, AreHeld, AreNear, IsTree, IsHeldTree}
use Rattle.path_trees.specs.Merging.{merge}
use Rattle.path_trees.specs.Operations.{image, images, joined}
use Rattle.path_trees.proofs.Finite.{tied, which, not_zero}
use Rattle.path_trees.proofs.Merges.{Rising, map_of, lists_map, map_entries, rising_merge, held_merge}
use Rattle.path_trees.proofs.TreeLaws.{least-entries, least-append, images-append}

pub rises : {es : List Entry} → IsTree es → Rising es
rises h = subst T (sym h.rising) tt

rising_true : (b : Bool) → T b → b ≡ true
rising_true true h = refl
rising_true false h = absurd h

pub is_tree : (es : List Entry) → Rising es → AreHeld es → IsTree es
is_tree es r h = record { rising = rising_true (is_sorted spot_order (pairs_of es)) r; held = h }

pub tree_merge : (xs ys : List Entry) → IsTree xs → IsTree ys → IsTree (merge xs ys)
tree_merge xs ys h k = is_tree (merge xs ys) (rising_merge xs ys (rises h) (rises k)) (held_merge xs ys h.held k.held)

pub map_least : (es : List Entry) → Rising es → map_of es ≡ least_of (pairs_of es)
map_least es r = sym (least-entries (map_of es)) ∙ ap least_of (map_entries es r)

pub map_nil : map_of [] ≡ empty
map_nil = map_least [] tt

pub map_one : (e : Entry) → map_of (e ∷ []) ≡ with_entry empty e.spot e.distance
map_one e = map_least (e ∷ []) tt

pub tree_nil : IsTree []
tree_nil = record { rising = refl; held = tt }

pub tree_one : (e : Entry) → IsHeldSpot e.spot → e.distance ≤ 63 → IsTree (e ∷ [])
tree_one e h k = record { rising = refl; held = (h, k, tt) }

-- a map of no entries is the empty one, and of some it is not
pub map_is_nil : (es : List Entry) → IsTree es → map_of es ≡ empty → es ≡ []
map_is_nil [] h p = refl
map_is_nil (e ∷ es) h p =
    let P : TreeMap → Type 0 = λ t. Stands t e.spot e.distance in
    absurd (subst (λ (o : Option ℕ). IsWithin o e.distance) (get-empty spot_order e.spot) (subst P p (lists_map (e ∷ es) e.spot e.distance (rises h) (inl (refl, omega arith)))))

pub held_near : (es : List Entry) → AreHeld es → AreNear es
held_near [] h = tt
held_near (e ∷ es) h = (h.1, held_near es h.2)

pub near_take : (n : ℕ) (es : List Entry) → AreNear es → AreNear (take n es)
near_take zero es h = tt
near_take (suc n) [] h = tt
near_take (suc n) (e ∷ es) h = (h.0, near_take n es h.1)

pub near_drop : (n : ℕ) (es : List Entry) → AreNear es → AreNear (drop n es)
near_drop zero es h = h
near_drop (suc n) [] h = tt
near_drop (suc n) (e ∷ es) h = near_drop n es h.1

pairs-append : (xs ys : List Entry) → pairs_of (xs ++ ys) ≡ pairs_of xs ++ pairs_of ys
pairs-append [] ys = refl
pairs-append (x ∷ xs) ys = ap (λ z. (x.spot, x.distance) ∷ z) (pairs-append xs ys)

take_drop : (n : ℕ) (es : List Entry) → take n es ++ drop n es ≡ es
take_drop zero es = refl
take_drop (suc n) [] = refl
take_drop (suc n) (e ∷ es) = ap (λ z. e ∷ z) (take_drop n es)

-- the map of the images of a list, from those of its two parts
pub parts_joined : (m : Move) (n : ℕ) (es front back : List Entry) (t u : TreeMap) → front ≡ take n es → back ≡ drop n es → t ≡ least_of (images m (pairs_of front)) → u ≡ least_of (images m (pairs_of back)) → joined t u ≡ least_of (images m (pairs_of es))
parts_joined m n es front back t u f b p q =
    ap (λ z. joined z u) (p ∙ ap (λ z. least_of (images m (pairs_of z))) f)
    ∙ ap (λ z. joined (least_of (images m (pairs_of (take n es)))) z) (q ∙ ap (λ z. least_of (images m (pairs_of z))) b)
    ∙ sym (least-append (images m (pairs_of (take n es))) (images m (pairs_of (drop n es))))
    ∙ ap least_of (sym (images-append m (pairs_of (take n es)) (pairs_of (drop n es))))
    ∙ ap (λ z. least_of (images m z)) (sym (pairs-append (take n es) (drop n es)))
    ∙ ap (λ z. least_of (images m (pairs_of z))) (take_drop n es)

-- the map of one entry, moved
pub one_joined : (m : Move) (e : Entry) → least_of (image (move_spot m e.spot) (shift m e.distance)) ≡ least_of (images m (pairs_of (e ∷ [])))
one_joined m e = ap least_of (sym (append-nil (image (move_spot m e.spot) (shift m e.distance))))

held_found : (es : List Entry) (s : Spot) (d : ℕ) → AreHeld es → find spot_order s (pairs_of es) ≡ Some d → IsHeldSpot s × (d ≤ 63)
held_found [] s d h e = absurd (cc)
held_found (x ∷ es) s d h e = go (held_found es s d h.2) (which (eq_by_cmp spot_order s x.spot))
  where
    some : {a b : ℕ} → Some a ≡ Some b → a ≡ b
    some p = cc

    go : (find spot_order s (pairs_of es) ≡ Some d → IsHeldSpot s × (d ≤ 63)) → (eq_by_cmp spot_order s x.spot ≡ true) ⊎ (eq_by_cmp spot_order s x.spot ≡ false) → IsHeldSpot s × (d ≤ 63)
    go more (inl p) =
        let q : x.distance ≡ d = some (subst (λ (b : Bool). cond b (Some x.distance) (find spot_order s (pairs_of es)) ≡ Some d) p e) in
        let n = h.1 in
        (subst (λ (z : Spot). IsHeldSpot z) (sym (tied s x.spot p)) h.0, omega arith)
    go more (inr p) = more (subst (λ (b : Bool). cond b (Some x.distance) (find spot_order s (pairs_of es)) ≡ Some d) p e)

pub held_map : (es : List Entry) → IsTree es → IsHeldTree (map_of es)
held_map es h = record {
  spots = λ s d e. (held_found es s d h.held (sym (get-from_sorted spot_order (pairs_of es) s (rises h)) ∙ e)).0;
  near = λ s d e. (held_found es s d h.held (sym (get-from_sorted spot_order (pairs_of es) s (rises h)) ∙ e)).1;
}

-- a list is empty where its map is
pub empty_map : (es : List Entry) (r : Bool) → r ≡ (length es == 0) → IsTree es → (r ≡ true → map_of es ≡ empty) × (map_of es ≡ empty → r ≡ true)
empty_map [] r e h = (λ p. map_nil, λ p. e)
empty_map (x ∷ es) r e h = (λ p. absurd (let q = not_zero (length es) in cc), λ p. absurd (let q = map_is_nil (x ∷ es) h p in cc))

-- nothing moves
pub images_same : (xs : List (Spot × ℕ)) → images Same xs ≡ xs
images_same [] = refl
images_same (x ∷ xs) = ap (λ z. x ∷ z) (images_same xs)
