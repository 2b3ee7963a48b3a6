-- Two lists of entries in order, merged.
use Rattle.std.proofs.Common.{◌≡◌, ℕ, ◌≤◌, ◌<◌, Bool, true, false, cond, List, [], ◌∷◌, ◌++◌, Option, refl, ap, ◌∙◌, sym, subst, inl, inr, ◌⊎◌, arith, ◌&&◌, nat_lt, append-nil, length, ◌==◌}
use Rattle.std.specs.Prelude.{T}
use Rattle.std.specs.Ordering.{is_lt, ordering_reverse}
use Rattle.std.specs.declared.cmp.Ordering.{Ordering}
use Rattle.std.specs.declared.cmp.Ordering.TheVariants.{Less, Equal, Greater}
use Rattle.std.specs.FinMap.{entries, is_sorted, from_sorted, get-from_sorted, entries-from_sorted}
use Rattle.std.specs.FinMap.Entries.{below_all}
use Rattle.path_trees.specs.declared.spots.Spot.{Spot}
use Rattle.path_trees.specs.declared.spots.Entry.{Entry}
use Rattle.path_trees.specs.Spots.{spot_order, IsHeldSpot}
use Rattle.path_trees.specs.Trees.{TreeMap, IsWithin, Stands, pairs_of, AreHeld}
use Rattle.path_trees.specs.Merging.{nearer, by_order, merge_from, merge}
use Rattle.path_trees.specs.Operations.{joined}
use Rattle.path_trees.proofs.Orders.{spot_order-total, spot_order-exact}
use Rattle.path_trees.proofs.Finite.{Listed, listed_left, listed_right, listed_split, least_listed, listed_least, stands_listed, listed_stands, found_listed, listed_found, below_antisymm, not_zero}

pub all_first : (a b : Bool) → T (a && b) → T a
all_first true b p = tt
all_first false b p = p

pub all_second : (a b : Bool) → T (a && b) → T b
all_second true b p = p
all_second false b p = absurd p

pub all_both : (a b : Bool) → T a → T b → T (a && b)
all_both true b p q = q
all_both false b p q = p

-- an entry in order before those that come after
abbrev pub Above : Spot → List Entry → Type 0
Above s es = T (below_all spot_order s (pairs_of es))

abbrev pub Rising : List Entry → Type 0
Rising es = T (is_sorted spot_order (pairs_of es))

pub above_less : (a b : Spot) (es : List Entry) → spot_order a b ≡ Less → Above b es → Above a es
above_less a b [] p h = tt
above_less a b (e ∷ es) p h =
    all_both _ _ (subst (λ r. T (is_lt r)) (sym (spot_order-total.trans a b e.spot p (is_less _ (all_first _ _ h)))) tt) (above_less a b es p (all_second _ _ h))
  where
    is_less : (o : Ordering) → T (is_lt o) → o ≡ Less
    is_less Less p = refl
    is_less Equal p = absurd p
    is_less Greater p = absurd p

pub less_test : (o : Ordering) → o ≡ Less → T (is_lt o)
less_test o p = subst (λ r. T (is_lt r)) (sym p) tt

pub turned : (a b : Spot) → spot_order a b ≡ Greater → spot_order b a ≡ Less
turned a b p = spot_order-total.antisymm b a ∙ ap ordering_reverse p

-- whichever of two entries at one spot is taken has that spot
nearer_spot : (x y : Entry) → x.spot ≡ y.spot → (nearer x y).spot ≡ x.spot
nearer_spot x y h = go (nat_lt y.distance x.distance)
  where
    go : (b : Bool) → (cond b y x).spot ≡ x.spot
    go true = sym h
    go false = refl

pub merge_nil : (xs : List Entry) → merge xs [] ≡ xs
merge_nil [] = refl
merge_nil (x ∷ xs) = ap (λ z. x ∷ z) (merge_nil xs)

-- what comes after in the one and in the other comes after in both
above_merge_from : (s : Spot) (x : Entry) (rest : List Entry → List Entry) → T (is_lt (spot_order s x.spot)) → ((zs : List Entry) → Above s zs → Above s (rest zs)) → (ys : List Entry) → Above s ys → Above s (merge_from x rest ys)
above_merge_from s x rest h k [] l = all_both _ _ h (k [] tt)
above_merge_from s x rest h k (y ∷ ys) l = go (above_merge_from s x rest h k ys (all_second _ _ l)) (spot_order x.spot y.spot)
  where
    near : (b : Bool) → T (is_lt (spot_order s (cond b y x).spot))
    near true = all_first _ _ l
    near false = h

    go : Above s (merge_from x rest ys) → (o : Ordering) → Above s (by_order o (x ∷ rest (y ∷ ys)) (nearer x y ∷ rest ys) (y ∷ merge_from x rest ys))
    go more Less = all_both _ _ h (k (y ∷ ys) l)
    go more Equal = all_both _ _ (near (nat_lt y.distance x.distance)) (k ys (all_second _ _ l))
    go more Greater = all_both _ _ (all_first _ _ l) more

above_merge : (s : Spot) (xs ys : List Entry) → Above s xs → Above s ys → Above s (merge xs ys)
above_merge s [] ys h k = k
above_merge s (x ∷ xs) ys h k = above_merge_from s x (merge xs) (all_first _ _ h) (λ zs l. above_merge s xs zs (all_second _ _ h) l) ys k

rising_merge_from : (x : Entry) (xs : List Entry) → Above x.spot xs → Rising xs → ((zs : List Entry) → Rising zs → Rising (merge xs zs)) → (ys : List Entry) → Rising ys → Rising (merge_from x (merge xs) ys)
rising_merge_from x xs h r k [] l = all_both _ _ (subst (λ (z : List Entry). Above x.spot z) (sym (merge_nil xs)) h) (k [] tt)
rising_merge_from x xs h r k (y ∷ ys) l = go (rising_merge_from x xs h r k ys (all_second _ _ l)) (spot_order x.spot y.spot) refl
  where
    near : (b : Bool) → x.spot ≡ y.spot → Above (cond b y x).spot (merge xs ys)
    near true e = above_merge y.spot xs ys (subst (λ (z : Spot). Above z xs) e h) (all_first _ _ l)
    near false e = above_merge x.spot xs ys h (subst (λ (z : Spot). Above z ys) (sym e) (all_first _ _ l))

    go : Rising (merge_from x (merge xs) ys) → (o : Ordering) → spot_order x.spot y.spot ≡ o → Rising (by_order o (x ∷ merge xs (y ∷ ys)) (nearer x y ∷ merge xs ys) (y ∷ merge_from x (merge xs) ys))
    go more Less p = all_both _ _ (above_merge x.spot xs (y ∷ ys) h (all_both _ _ (less_test _ p) (above_less x.spot y.spot ys p (all_first _ _ l)))) (k (y ∷ ys) l)
    go more Equal p = all_both _ _ (near (nat_lt y.distance x.distance) (spot_order-exact x.spot y.spot p)) (k ys (all_second _ _ l))
    go more Greater p =
        all_both _ _
        (above_merge_from y.spot x (merge xs) (less_test _ (turned x.spot y.spot p)) (λ zs q. above_merge y.spot xs zs (above_less y.spot x.spot xs (turned x.spot y.spot p) h) q) ys (all_first _ _ l))
        more

-- the merge of lists in order is in order
pub rising_merge : (xs ys : List Entry) → Rising xs → Rising ys → Rising (merge xs ys)
rising_merge [] ys h k = k
rising_merge (x ∷ xs) ys h k = rising_merge_from x xs (all_first _ _ h) (all_second _ _ h) (λ zs l. rising_merge xs zs (all_second _ _ h) l) ys k

held_merge_from : (x : Entry) (rest : List Entry → List Entry) → IsHeldSpot x.spot × (x.distance ≤ 63) → ((zs : List Entry) → AreHeld zs → AreHeld (rest zs)) → (ys : List Entry) → AreHeld ys → AreHeld (merge_from x rest ys)
held_merge_from x rest h k [] l = (h.0, h.1, k [] tt)
held_merge_from x rest h k (y ∷ ys) l = go (held_merge_from x rest h k ys l.2) (spot_order x.spot y.spot)
  where
    near : (b : Bool) → IsHeldSpot (cond b y x).spot × ((cond b y x).distance ≤ 63)
    near true = (l.0, l.1)
    near false = h

    go : AreHeld (merge_from x rest ys) → (o : Ordering) → AreHeld (by_order o (x ∷ rest (y ∷ ys)) (nearer x y ∷ rest ys) (y ∷ merge_from x rest ys))
    go more Less = (h.0, h.1, k (y ∷ ys) l)
    go more Equal = let n = near (nat_lt y.distance x.distance) in (n.0, n.1, k ys l.2)
    go more Greater = (l.0, l.1, more)

pub held_merge : (xs ys : List Entry) → AreHeld xs → AreHeld ys → AreHeld (merge xs ys)
held_merge [] ys h k = k
held_merge (x ∷ xs) ys h k = held_merge_from x (merge xs) (h.0, h.1) (λ zs l. held_merge xs zs h.2 l) ys k

-- an entry lists what it says
abbrev pub Says : Entry → Spot → ℕ → Type 0
Says x s d = (x.spot ≡ s) × (x.distance ≤ d)

nearer_says : (x y : Entry) (s : Spot) (d : ℕ) → Says (nearer x y) s d → Says x s d ⊎ Says y s d
nearer_says x y s d h = go (nat_lt y.distance x.distance) h
  where
    go : (b : Bool) → Says (cond b y x) s d → Says x s d ⊎ Says y s d
    go true h = inr h
    go false h = inl h

says_first : (x y : Entry) (s : Spot) (d : ℕ) → x.spot ≡ y.spot → Says x s d → Says (nearer x y) s d
says_first x y s d e h = go (nat_lt y.distance x.distance) (λ k. lt_of k)
  where
    lt_of : nat_lt y.distance x.distance ≡ true → y.distance < x.distance
    lt_of k = grind (arith)

    go : (b : Bool) → (b ≡ true → y.distance < x.distance) → Says (cond b y x) s d
    go true k = (sym e ∙ h.0, let l = k refl in let m = h.1 in omega arith)
    go false k = h

says_second : (x y : Entry) (s : Spot) (d : ℕ) → x.spot ≡ y.spot → Says y s d → Says (nearer x y) s d
says_second x y s d e h = go (nat_lt y.distance x.distance) (λ k. ge_of k)
  where
    ge_of : nat_lt y.distance x.distance ≡ false → x.distance ≤ y.distance
    ge_of k = grind (arith)

    go : (b : Bool) → (b ≡ false → x.distance ≤ y.distance) → Says (cond b y x) s d
    go true k = h
    go false k = (e ∙ h.0, let l = k refl in let m = h.1 in omega arith)

abbrev pub Lists : List Entry → Spot → ℕ → Type 0
Lists es s d = Listed (pairs_of es) s d

merge_from_lists : (x : Entry) (xs : List Entry) → ((zs : List Entry) (s : Spot) (d : ℕ) → Lists (merge xs zs) s d → Lists xs s d ⊎ Lists zs s d) → (ys : List Entry) (s : Spot) (d : ℕ) → Lists (merge_from x (merge xs) ys) s d → Lists (x ∷ xs) s d ⊎ Lists ys s d
merge_from_lists x xs k [] s d (inl p) = inl (inl p)
merge_from_lists x xs k [] s d (inr p) = elim (k [] s d p) [ inl a ↦ inl (inr a) | inr b ↦ absurd b ]
merge_from_lists x xs k (y ∷ ys) s d h = go (merge_from_lists x xs k ys s d) (spot_order x.spot y.spot) h
  where
    go : (Lists (merge_from x (merge xs) ys) s d → Lists (x ∷ xs) s d ⊎ Lists ys s d) → (o : Ordering) → Lists (by_order o (x ∷ merge xs (y ∷ ys)) (nearer x y ∷ merge xs ys) (y ∷ merge_from x (merge xs) ys)) s d → Lists (x ∷ xs) s d ⊎ Lists (y ∷ ys) s d
    go more Less (inl p) = inl (inl p)
    go more Less (inr p) = elim (k (y ∷ ys) s d p) [ inl a ↦ inl (inr a) | inr b ↦ inr b ]
    go more Equal (inl p) = elim (nearer_says x y s d p) [ inl a ↦ inl (inl a) | inr b ↦ inr (inl b) ]
    go more Equal (inr p) = elim (k ys s d p) [ inl a ↦ inl (inr a) | inr b ↦ inr (inr b) ]
    go more Greater (inl p) = inr (inl p)
    go more Greater (inr p) = elim (more p) [ inl a ↦ inl a | inr b ↦ inr (inr b) ]

-- what a merge lists one of the two lists
pub merge_lists : (xs ys : List Entry) (s : Spot) (d : ℕ) → Lists (merge xs ys) s d → Lists xs s d ⊎ Lists ys s d
merge_lists [] ys s d h = inr h
merge_lists (x ∷ xs) ys s d h = merge_from_lists x xs (λ zs q e l. merge_lists xs zs q e l) ys s d h

lists_merge_from : (x : Entry) (xs : List Entry) → ((zs : List Entry) (s : Spot) (d : ℕ) → Lists xs s d ⊎ Lists zs s d → Lists (merge xs zs) s d) → (ys : List Entry) (s : Spot) (d : ℕ) → Lists (x ∷ xs) s d ⊎ Lists ys s d → Lists (merge_from x (merge xs) ys) s d
lists_merge_from x xs k [] s d (inl (inl p)) = inl p
lists_merge_from x xs k [] s d (inl (inr p)) = inr (k [] s d (inl p))
lists_merge_from x xs k [] s d (inr p) = absurd p
lists_merge_from x xs k (y ∷ ys) s d h = go (lists_merge_from x xs k ys s d) (spot_order x.spot y.spot) refl h
  where
    go : (Lists (x ∷ xs) s d ⊎ Lists ys s d → Lists (merge_from x (merge xs) ys) s d) → (o : Ordering) → spot_order x.spot y.spot ≡ o → Lists (x ∷ xs) s d ⊎ Lists (y ∷ ys) s d → Lists (by_order o (x ∷ merge xs (y ∷ ys)) (nearer x y ∷ merge xs ys) (y ∷ merge_from x (merge xs) ys)) s d
    go more Less e (inl (inl p)) = inl p
    go more Less e (inl (inr p)) = inr (k (y ∷ ys) s d (inl p))
    go more Less e (inr p) = inr (k (y ∷ ys) s d (inr p))
    go more Equal e (inl (inl p)) = inl (says_first x y s d (spot_order-exact x.spot y.spot e) p)
    go more Equal e (inl (inr p)) = inr (k ys s d (inl p))
    go more Equal e (inr (inl p)) = inl (says_second x y s d (spot_order-exact x.spot y.spot e) p)
    go more Equal e (inr (inr p)) = inr (k ys s d (inr p))
    go more Greater e (inl p) = inr (more (inl p))
    go more Greater e (inr (inl p)) = inl p
    go more Greater e (inr (inr p)) = inr (more (inr p))

-- and it lists what either lists
pub lists_merge : (xs ys : List Entry) (s : Spot) (d : ℕ) → Lists xs s d ⊎ Lists ys s d → Lists (merge xs ys) s d
lists_merge [] ys s d (inl p) = absurd p
lists_merge [] ys s d (inr p) = p
lists_merge (x ∷ xs) ys s d h = lists_merge_from x xs (λ zs q e l. lists_merge xs zs q e l) ys s d h

-- the map of entries in order
abbrev pub map_of : List Entry → TreeMap
map_of es = from_sorted (pairs_of es)

pub map_lists : (es : List Entry) (s : Spot) (d : ℕ) → Rising es → Stands (map_of es) s d → Lists es s d
map_lists es s d r h = found_listed (pairs_of es) s d (subst (λ (o : Option ℕ). IsWithin o d) (get-from_sorted spot_order (pairs_of es) s r) h)

pub lists_map : (es : List Entry) (s : Spot) (d : ℕ) → Rising es → Lists es s d → Stands (map_of es) s d
lists_map es s d r h = subst (λ (o : Option ℕ). IsWithin o d) (sym (get-from_sorted spot_order (pairs_of es) s r)) (listed_found (pairs_of es) s d r h)

pub map_entries : (es : List Entry) → Rising es → entries (map_of es) ≡ pairs_of es
map_entries es r = entries-from_sorted spot_order (pairs_of es) r

-- the map of a merge is the join of the maps
pub map_merge : (xs ys : List Entry) → Rising xs → Rising ys → map_of (merge xs ys) ≡ joined (map_of xs) (map_of ys)
map_merge xs ys r q = below_antisymm (map_of (merge xs ys)) (joined (map_of xs) (map_of ys))
    (record {
      at = λ s d h. listed_least (entries (map_of xs) ++ entries (map_of ys)) s d (elim (merge_lists xs ys s d (map_lists (merge xs ys) s d (rising_merge xs ys r q) h)) [
        | inl a ↦ listed_left (entries (map_of xs)) (entries (map_of ys)) s d (stands_listed (map_of xs) s d (lists_map xs s d r a))
        | inr b ↦ listed_right (entries (map_of xs)) (entries (map_of ys)) s d (stands_listed (map_of ys) s d (lists_map ys s d q b))
      ]);
    })
    (record {
      at = λ s d h. lists_map (merge xs ys) s d (rising_merge xs ys r q) (lists_merge xs ys s d (elim (listed_split (entries (map_of xs)) (entries (map_of ys)) s d (least_listed (entries (map_of xs) ++ entries (map_of ys)) s d h)) [
        | inl a ↦ inl (map_lists xs s d r (listed_stands (map_of xs) s d a))
        | inr b ↦ inr (map_lists ys s d q (listed_stands (map_of ys) s d b))
      ]));
    })

-- at the end of one of the lists the rest of both is their merge
pub merge_end_first : (out xs ys : List Entry) (r : Bool) → r ≡ (length xs == 0) → r ≡ true → (out ++ xs) ++ ys ≡ out ++ merge xs ys
merge_end_first out [] ys r e h = ap (λ z. z ++ ys) (append-nil out)
merge_end_first out (x ∷ xs) ys r e h = absurd (let q = not_zero (length xs) in cc)

pub merge_end_second : (out xs ys : List Entry) (r : Bool) → r ≡ (length ys == 0) → r ≡ true → (out ++ xs) ++ ys ≡ out ++ merge xs ys
merge_end_second out xs [] r e h = append-nil (out ++ xs) ∙ ap (λ z. out ++ z) (sym (merge_nil xs))
merge_end_second out xs (y ∷ ys) r e h = absurd (let q = not_zero (length ys) in cc)
