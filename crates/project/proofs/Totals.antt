-- Sums over the entries of a list in order, and of a finite map.
use Rattle.std.proofs.Common.{◌≡◌, ℕ, ◌+◌, ◌*◌, ◌≤◌, Bool, true, false, cond, not, List, [], ◌∷◌, length, Option, Some, None, refl, sym, ap, ◌∙◌, subst, arith}
use Rattle.std.specs.Prelude.{T, fold, ◌&&◌}
use Rattle.std.specs.List.{sum_by}
use Rattle.std.specs.Ordering.{is_eq, is_lt, eq_by_cmp}
use Rattle.std.specs.declared.cmp.Ordering.{Ordering}
use Rattle.std.specs.declared.cmp.Ordering.TheVariants.{Less, Equal, Greater}
use Rattle.std.specs.Cmp.{IsTotalOrder, tied_itself}
use Rattle.std.specs.Cmp.Lexicographic.{nat_list_cmp_total}
use Rattle.std.specs.FinMap.{FinMap, IsAntisymmetric, entries, entries_sorted, entries-from_sorted, entries-insert, find, from_sorted, get, get-entries, get-from_sorted, get-remove, insert, is_sorted, nat_cmp-IsAntisymmetric, put, remove, same_map, slice_cmp-IsAntisymmetric}
use Rattle.std.specs.FinMap.Entries.{below_all, by_order, find-where_key, is_sorted-where_key, where_key}
use Rattle.rv_names.specs.Keys.{Bytes, bytes_order}

pub total_order : IsTotalOrder bytes_order
total_order = nat_list_cmp_total

pub exact : IsAntisymmetric bytes_order
exact = slice_cmp-IsAntisymmetric nat_cmp-IsAntisymmetric

pub tied_same : (k : Bytes) → eq_by_cmp bytes_order k k ≡ true
tied_same k = ap is_eq (tied_itself total_order k)

equal : (o : Ordering) → is_eq o ≡ true → o ≡ Equal
equal Less h = absurd cc
equal Equal h = refl
equal Greater h = absurd cc

less : (o : Ordering) → T (is_lt o) → o ≡ Less
less Less h = refl
less Equal h = absurd h
less Greater h = absurd h

pub tied : (a b : Bytes) → eq_by_cmp bytes_order a b ≡ true → a ≡ b
tied a b h = exact a b (equal (bytes_order a b) h)

first : (a b : Bool) → T (a && b) → T a
first true b h = tt
first false b h = absurd h

second : (a b : Bool) → T (a && b) → T b
second true b h = h
second false b h = absurd h

-- the term of an entry that may be there
abbrev pub at : {X : Type 0} → (Bytes × X → ℕ) → Bytes → Option X → ℕ
at f k None = 0
at f k (Some x) = f (k, x)

module _ {A : Type 0} where
  pub total : (A → ℕ) → List A → ℕ
  total f [] = 0
  total f (e ∷ es) = f e + total f es

  total_from : (f : A → ℕ) (n : ℕ) (es : List A) → fold (λ a e. a + f e) n es ≡ n + total f es
  unfolding total
  total_from f n [] = omega arith
  total_from f n (e ∷ es) = total_from f (n + f e) es ∙ omega arith

  pub total_is : (f : A → ℕ) (es : List A) → sum_by f es ≡ total f es
  total_is f es = total_from f 0 es ∙ omega arith

  pub total_cons : (f : A → ℕ) (e : A) (es : List A) → total f (e ∷ es) ≡ f e + total f es
  unfolding total
  total_cons f e es = refl

  pub total_none : (f : A → ℕ) → total f [] ≡ 0
  unfolding total
  total_none f = refl

module _ {X : Type 0} where
  below_less : (x y : Bytes) (es : List (Bytes × X)) → bytes_order x y ≡ Less → T (below_all bytes_order y es) → T (below_all bytes_order x es)
  below_less x y [] p h = tt
  below_less x y (e ∷ es) p h = both _ _ (subst (λ r. T (is_lt r)) (sym (total_order.trans x y e.0 p (less _ (first _ _ h)))) tt) (below_less x y es p (second _ _ h))
    where
      both : (a b : Bool) → T a → T b → T (a && b)
      both true b p q = q
      both false b p q = absurd p

  pub below_none : (k : Bytes) (es : List (Bytes × X)) → T (below_all bytes_order k es) → find bytes_order k es ≡ None
  below_none k [] h = refl
  below_none k (e ∷ es) h = ap (λ r. cond (is_eq r) (Some e.1) (find bytes_order k es)) (less _ (first _ _ h)) ∙ below_none k es (second _ _ h)

  pub keep_all : (k : Bytes) (es : List (Bytes × X)) → T (below_all bytes_order k es) → where_key bytes_order (λ x. not (eq_by_cmp bytes_order k x)) es ≡ es
  keep_all k [] h = refl
  keep_all k (e ∷ es) h =
      ap (λ r. cond (not (is_eq r)) (e ∷ where_key bytes_order (λ x. not (eq_by_cmp bytes_order k x)) es) (where_key bytes_order (λ x. not (eq_by_cmp bytes_order k x)) es)) (less _ (first _ _ h))
      ∙ ap (λ z. e ∷ z) (keep_all k es (second _ _ h))

  -- the entries without the one at a key
  abbrev pub without : Bytes → List (Bytes × X) → List (Bytes × X)
  without k es = where_key bytes_order (λ x. not (eq_by_cmp bytes_order k x)) es

  pub total_put : (f : Bytes × X → ℕ) (k : Bytes) (v : X) (es : List (Bytes × X)) → T (is_sorted bytes_order es) → total f (put bytes_order k v es) + at f k (find bytes_order k es) ≡ total f es + f (k, v)
  unfolding total
  total_put f k v [] h = omega arith
  total_put f k v (e ∷ es) h =
      elim (bytes_order k e.0) as (λ r. bytes_order k e.0 ≡ r → total f (by_order r ((k, v) ∷ e ∷ es) ((e.0, v) ∷ es) (e ∷ put bytes_order k v es)) + at f k (cond (is_eq r) (Some e.1) (find bytes_order k es)) ≡ (f e + total f es) + f (k, v)) [
        | Less ↦ λ p.
            let none : at f k (find bytes_order k es) ≡ 0 = ap (at f k) (below_none k es (below_less k e.0 es p (first _ _ h))) in
            omega arith
        | Equal ↦ λ p.
            let here : f (e.0, v) ≡ f (k, v) = ap (λ z. f (z, v)) (sym (exact k e.0 p)) in
            let there : f (k, e.1) ≡ f e = ap (λ z. f (z, e.1)) (exact k e.0 p) in
            omega arith
        | Greater ↦ λ p. let rest = total_put f k v es (second _ _ h) in omega arith
      ] refl

  pub total_without : (f : Bytes × X → ℕ) (k : Bytes) (es : List (Bytes × X)) → T (is_sorted bytes_order es) → total f (without k es) + at f k (find bytes_order k es) ≡ total f es
  unfolding total
  total_without f k [] h = refl
  total_without f k (e ∷ es) h =
      elim (eq_by_cmp bytes_order k e.0) as (λ b. eq_by_cmp bytes_order k e.0 ≡ b → total f (cond (not b) (e ∷ without k es) (without k es)) + at f k (cond b (Some e.1) (find bytes_order k es)) ≡ f e + total f es) [
        | true ↦ λ p.
            let same : k ≡ e.0 = tied k e.0 p in
            let all : total f (without k es) ≡ total f es = ap (total f) (keep_all k es (subst (λ z. T (below_all bytes_order z es)) (sym same) (first _ _ h))) in
            let there : f (k, e.1) ≡ f e = ap (λ z. f (z, e.1)) same in
            omega arith
        | false ↦ λ p. let rest = total_without f k es (second _ _ h) in omega arith
      ] refl

  -- two weights that differ at one key alone
  agree : (f g : Bytes × X → ℕ) (t : Bytes) → ((q : Bytes) (x : X) → (q ≡ t → ⊥) → f (q, x) ≡ g (q, x)) → (es : List (Bytes × X)) → total f (without t es) ≡ total g (without t es)
  unfolding total
  agree f g t h [] = refl
  agree f g t h (e ∷ es) =
      let rest = agree f g t h es in
      elim (eq_by_cmp bytes_order t e.0) as (λ b. eq_by_cmp bytes_order t e.0 ≡ b → total f (cond (not b) (e ∷ without t es) (without t es)) ≡ total g (cond (not b) (e ∷ without t es) (without t es))) [
        | true ↦ λ p. rest
        | false ↦ λ p.
            let apart : e.0 ≡ t → ⊥ = λ s. let is : eq_by_cmp bytes_order t e.0 ≡ true = ap (eq_by_cmp bytes_order t) s ∙ tied_same t in cc in
            let here : f e ≡ g e = h e.0 e.1 apart in
            omega arith
      ] refl

  pub total_change : (f g : Bytes × X → ℕ) (t : Bytes) → ((q : Bytes) (x : X) → (q ≡ t → ⊥) → f (q, x) ≡ g (q, x)) → (es : List (Bytes × X)) → T (is_sorted bytes_order es) → total f es + at g t (find bytes_order t es) ≡ total g es + at f t (find bytes_order t es)
  total_change f g t h es s =
      let a = total_without f t es s in
      let b = total_without g t es s in
      let c = agree f g t h es in
      omega arith

  pub total_same : (f g : Bytes × X → ℕ) → ((q : Bytes) (x : X) → f (q, x) ≡ g (q, x)) → (es : List (Bytes × X)) → total f es ≡ total g es
  unfolding total
  total_same f g h [] = refl
  total_same f g h (e ∷ es) = let here : f e ≡ g e = h e.0 e.1 in let rest = total_same f g h es in omega arith

  pub total_small : (f : Bytes × X → ℕ) → ((e : Bytes × X) → f e ≤ 4294967295) → (es : List (Bytes × X)) → total f es ≤ length es * 4294967295
  unfolding total
  total_small f h [] = omega arith
  total_small f h (e ∷ es) = let here = h e in let rest = total_small f h es in omega arith

  -- ---- of a finite map

  pub entries_without : (m : FinMap bytes_order X) (k : Bytes) → entries (remove m k) ≡ without k (entries m)
  entries_without m k = ap entries same ∙ entries-from_sorted bytes_order (without k (entries m)) sorted
    where
      keep : Bytes → Bool
      keep x = not (eq_by_cmp bytes_order k x)

      sorted : T (is_sorted bytes_order (without k (entries m)))
      sorted = is_sorted-where_key bytes_order (λ x. not (eq_by_cmp bytes_order k x)) (entries m) (entries_sorted m)

      found : (q : Bytes) → find bytes_order q (without k (entries m)) ≡ cond (eq_by_cmp bytes_order q k) None (find bytes_order q (entries m))
      found q =
          find-where_key bytes_order (λ x. not (eq_by_cmp bytes_order k x)) q (λ x t. ap (λ z. not (eq_by_cmp bytes_order k z)) (sym (exact q x t))) (entries m)
          ∙ turned (eq_by_cmp bytes_order k q) (eq_by_cmp bytes_order q k) swapped
        where
          swapped : eq_by_cmp bytes_order k q ≡ eq_by_cmp bytes_order q k
          swapped = go (eq_by_cmp bytes_order k q) refl (eq_by_cmp bytes_order q k) refl
            where
              go : (a : Bool) → eq_by_cmp bytes_order k q ≡ a → (b : Bool) → eq_by_cmp bytes_order q k ≡ b → a ≡ b
              go true p true r = refl
              go false p false r = refl
              go true p false r = let s : k ≡ q = tied k q p in let u : eq_by_cmp bytes_order q k ≡ true = ap (eq_by_cmp bytes_order q) s ∙ tied_same q in cc
              go false p true r = let s : q ≡ k = tied q k r in let u : eq_by_cmp bytes_order k q ≡ true = ap (eq_by_cmp bytes_order k) s ∙ tied_same k in cc

          turned : (a b : Bool) → a ≡ b → cond (not a) (find bytes_order q (entries m)) None ≡ cond b None (find bytes_order q (entries m))
          turned true true e = refl
          turned false false e = refl
          turned true false e = absurd cc
          turned false true e = absurd cc

      same : remove m k ≡ from_sorted (without k (entries m))
      same = same_map total_order exact (remove m k) (from_sorted (without k (entries m))) (λ q.
          get-remove total_order m k q
          ∙ ap (λ o. cond (eq_by_cmp bytes_order q k) None o) (get-entries m q)
          ∙ sym (get-from_sorted bytes_order (without k (entries m)) q sorted ∙ found q))

  pub sum_insert : (f : Bytes × X → ℕ) (m : FinMap bytes_order X) (k : Bytes) (v : X) → total f (entries (insert m k v)) + at f k (get m k) ≡ total f (entries m) + f (k, v)
  sum_insert f m k v =
      ap (λ es. total f es + at f k (get m k)) (entries-insert total_order m k v)
      ∙ ap (λ o. total f (put bytes_order k v (entries m)) + at f k o) (get-entries m k)
      ∙ total_put f k v (entries m) (entries_sorted m)

  pub sum_remove : (f : Bytes × X → ℕ) (m : FinMap bytes_order X) (k : Bytes) → total f (entries (remove m k)) + at f k (get m k) ≡ total f (entries m)
  sum_remove f m k =
      ap (λ es. total f es + at f k (get m k)) (entries_without m k)
      ∙ ap (λ o. total f (without k (entries m)) + at f k o) (get-entries m k)
      ∙ total_without f k (entries m) (entries_sorted m)

  pub sum_change : (f g : Bytes × X → ℕ) (t : Bytes) → ((q : Bytes) (x : X) → (q ≡ t → ⊥) → f (q, x) ≡ g (q, x)) → (m : FinMap bytes_order X) → total f (entries m) + at g t (get m t) ≡ total g (entries m) + at f t (get m t)
  sum_change f g t h m =
      ap (λ o. total f (entries m) + at g t o) (get-entries m t)
      ∙ total_change f g t h (entries m) (entries_sorted m)
      ∙ ap (λ o. total g (entries m) + at f t o) (sym (get-entries m t))
