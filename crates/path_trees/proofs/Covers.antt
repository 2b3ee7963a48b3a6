-- When each entry of a list stands in another.
use Rattle.std.proofs.Common.{◌≡◌, ℕ, ◌≤◌, Bool, true, false, List, [], ◌∷◌, refl, ap, ◌∙◌, sym, subst, inl, inr, arith, ◌&&◌, nat_le, ◌==◌, length, drop, zero, suc}
use Rattle.std.specs.declared.cmp.Ordering.{Ordering}
use Rattle.std.specs.declared.cmp.Ordering.TheVariants.{Less, Equal, Greater}
use Rattle.path_trees.specs.declared.spots.Spot.{Spot}
use Rattle.path_trees.specs.declared.spots.Entry.{Entry}
use Rattle.path_trees.specs.Spots.{spot_order}
use Rattle.path_trees.specs.Trees.{Below, pairs_of}
use Rattle.path_trees.specs.Merging.{by_order, covered_from, covered}
use Rattle.path_trees.proofs.Orders.{spot_order-exact}
use Rattle.path_trees.proofs.Finite.{listed_apart, not_zero}
use Rattle.path_trees.proofs.Merges.{Above, Rising, Lists, map_of, map_lists, lists_map, all_first, all_second, all_both, above_less, less_test, turned}

and_first : (a b : Bool) → (a && b) ≡ true → a ≡ true
and_first true b h = refl
and_first false b h = absurd (cc)

and_second : (a b : Bool) → (a && b) ≡ true → b ≡ true
and_second true b h = h
and_second false b h = absurd (cc)

and_both : (a b : Bool) → a ≡ true → b ≡ true → (a && b) ≡ true
and_both true b p q = q
and_both false b p q = p

le_of : (a b : ℕ) → nat_le a b ≡ true → a ≤ b
le_of a b h = grind (arith)

of_le : (a b : ℕ) → a ≤ b → nat_le a b ≡ true
of_le a b h = grind (arith)

covered_from_lists : (x : Entry) (xs : List Entry) → ((zs : List Entry) → covered xs zs ≡ true → (s : Spot) (d : ℕ) → Lists xs s d → Lists zs s d) → (ys : List Entry) → covered_from x (covered xs) ys ≡ true → (s : Spot) (d : ℕ) → Lists (x ∷ xs) s d → Lists ys s d
covered_from_lists x xs k [] h s d l = absurd (cc)
covered_from_lists x xs k (y ∷ ys) h s d l = go (λ m. covered_from_lists x xs k ys m s d) (spot_order x.spot y.spot) refl h l
  where
    go : (covered_from x (covered xs) ys ≡ true → Lists (x ∷ xs) s d → Lists ys s d) → (o : Ordering) → spot_order x.spot y.spot ≡ o → by_order o false (nat_le y.distance x.distance && covered xs ys) (covered_from x (covered xs) ys) ≡ true → Lists (x ∷ xs) s d → Lists (y ∷ ys) s d
    go more Less e h l = absurd (cc)
    go more Equal e h (inl p) =
        inl (sym (spot_order-exact x.spot y.spot e) ∙ p.0, let m = le_of y.distance x.distance (and_first _ _ h) in let n = p.1 in omega arith)
    go more Equal e h (inr p) = inr (k ys (and_second _ _ h) s d p)
    go more Greater e h l = inr (more h l)

-- where the walk finds each, what the one lists the other lists
pub covered_lists : (xs ys : List Entry) → covered xs ys ≡ true → (s : Spot) (d : ℕ) → Lists xs s d → Lists ys s d
covered_lists [] ys h s d l = absurd l
covered_lists (x ∷ xs) ys h s d l = covered_from_lists x xs (λ zs p q e m. covered_lists xs zs p q e m) ys h s d l

-- one list lists what the other does
pub record Carries (ys xs : List Entry) : Type 0 where
  pub at : (s : Spot) (d : ℕ) → Lists xs s d → Lists ys s d

lists_covered_from : (x : Entry) (xs : List Entry) → Above x.spot xs → ((zs : List Entry) → Rising zs → Carries zs xs → covered xs zs ≡ true) → (ys : List Entry) → Rising ys → Carries ys (x ∷ xs) → covered_from x (covered xs) ys ≡ true
lists_covered_from x xs a k [] r c = absurd (c.at x.spot x.distance (inl (refl, omega arith)))
lists_covered_from x xs a k (y ∷ ys) r c = go (lists_covered_from x xs a k ys (all_second _ _ r)) (spot_order x.spot y.spot) refl
  where
    mine : Lists (y ∷ ys) x.spot x.distance
    mine = c.at x.spot x.distance (inl (refl, omega arith))

    near : x.spot ≡ y.spot → Lists (y ∷ ys) x.spot x.distance → y.distance ≤ x.distance
    near e (inl p) = p.1
    near e (inr p) = absurd (listed_apart y.spot (pairs_of ys) x.distance (all_first _ _ r) (subst (λ (z : Spot). Lists ys z x.distance) e p))

    less : spot_order x.spot y.spot ≡ Less → ⊥
    less e = listed_apart x.spot (pairs_of (y ∷ ys)) x.distance (all_both _ _ (less_test _ e) (above_less x.spot y.spot ys e (all_first _ _ r))) mine

    past : (s : Spot) (d : ℕ) → (Lists xs s d → y.spot ≡ s → ⊥) → Lists xs s d → Lists (y ∷ ys) s d → Lists ys s d
    past s d n l (inl p) = absurd (n l p.0)
    past s d n l (inr p) = p

    rest_equal : x.spot ≡ y.spot → Carries ys xs
    rest_equal e = record {
      at = λ s d l. past s d (λ m q. listed_apart x.spot (pairs_of xs) d a (subst (λ (z : Spot). Lists xs z d) (sym (e ∙ q)) m)) l (c.at s d (inr l));
    }

    past_all : (s : Spot) (d : ℕ) → (Lists (x ∷ xs) s d → y.spot ≡ s → ⊥) → Lists (x ∷ xs) s d → Lists (y ∷ ys) s d → Lists ys s d
    past_all s d n l (inl p) = absurd (n l p.0)
    past_all s d n l (inr p) = p

    rest_greater : spot_order x.spot y.spot ≡ Greater → Carries ys (x ∷ xs)
    rest_greater e = record {
      at = λ s d l. past_all s d
          (λ m q. listed_apart y.spot (pairs_of (x ∷ xs)) d (all_both _ _ (less_test _ (turned x.spot y.spot e)) (above_less y.spot x.spot xs (turned x.spot y.spot e) a)) (subst (λ (z : Spot). Lists (x ∷ xs) z d) (sym q) m))
          l (c.at s d l);
    }

    go : (Carries ys (x ∷ xs) → covered_from x (covered xs) ys ≡ true) → (o : Ordering) → spot_order x.spot y.spot ≡ o → by_order o false (nat_le y.distance x.distance && covered xs ys) (covered_from x (covered xs) ys) ≡ true
    go more Less e = absurd (less e)
    go more Equal e = let same = spot_order-exact x.spot y.spot e in and_both _ _ (of_le _ _ (near same mine)) (k ys (all_second _ _ r) (rest_equal same))
    go more Greater e = more (rest_greater e)

-- and where it does, the walk finds each
pub lists_covered : (xs ys : List Entry) → Rising xs → Rising ys → Carries ys xs → covered xs ys ≡ true
lists_covered [] ys r q c = refl
lists_covered (x ∷ xs) ys r q c = lists_covered_from x xs (all_first _ _ r) (λ zs m d. lists_covered xs zs (all_second _ _ r) m d) ys q c

pub covered_below : (xs ys : List Entry) → Rising xs → Rising ys → covered xs ys ≡ true → Below (map_of xs) (map_of ys)
covered_below xs ys r q h = record { at = λ s d l. lists_map ys s d q (covered_lists xs ys h s d (map_lists xs s d r l)) }

pub below_covered : (xs ys : List Entry) → Rising xs → Rising ys → Below (map_of xs) (map_of ys) → covered xs ys ≡ true
below_covered xs ys r q h = lists_covered xs ys r q (record { at = λ s d l. map_lists ys s d q (h.at s d (lists_map xs s d r l)) })

drop_all : (i : ℕ) (ys : List Entry) → length ys ≤ i → drop i ys ≡ []
drop_all zero [] h = refl
drop_all zero (y ∷ ys) h = absurd (omega arith)
drop_all (suc i) [] h = refl
drop_all (suc i) (y ∷ ys) h = drop_all i ys (omega arith)

none_covered : (xs : List Entry) → (length xs == 0) ≡ covered xs []
none_covered [] = refl
none_covered (x ∷ xs) = not_zero (length xs)

-- at the end of the one list the other has to be at its end too
pub covered_end : (xs ys : List Entry) (i : ℕ) → length ys ≤ i → (length xs == 0) ≡ covered xs (drop i ys)
covered_end xs ys i h = none_covered xs ∙ ap (covered xs) (sym (drop_all i ys h))
