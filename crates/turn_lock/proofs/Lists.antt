-- Facts about lists of views.
use Rattle.std.proofs.Common.{◌≡◌, ◌≢◌, ℕ, zero, suc, ◌+◌, ◌<◌, ◌≤◌, ◌⊎◌, List, [], ◌∷◌, ◌++◌, length, set, Option, Some, sym, refl, ap, ◌∙◌, subst, ⊎_elim, inl, inr, arith, append_assoc, append-nil}
use mathlib.Core.Option.{some, some-ne-none, some-injective}
use lib.ListN.{get_elem?}
use Rattle.atomic_table.specs.Table.{rest}
use Rattle.atomic_table.proofs.Lists.{at_set}
use Rattle.turn_lock.specs.Turn.{total, Unique, StartsWith}

module _ {A : Type 0} where
  pub total_set : (f : A → ℕ) (l : List A) (i : ℕ) (v w : A) → get_elem? l i ≡ some v → total f (set l i w) + f v ≡ total f l + f w
  total_set f [] i v w e = absurd (some-ne-none v (sym e))
  total_set f (x ∷ xs) zero v w e = let is : f x ≡ f v = ap f (some-injective x v e) in omega arith
  total_set f (x ∷ xs) (suc i) v w e = let r = total_set f xs i v w e in omega arith

  pub total_le : (f g : A → ℕ) (l : List A) → ((j : ℕ) (x : A) → get_elem? l j ≡ some x → f x ≤ g x) → total f l ≤ total g l
  total_le f g [] h = omega arith
  total_le f g (x ∷ xs) h = let a = h 0 x refl in let b = total_le f g xs (λ j y e. h (suc j) y e) in omega arith

  pub at_one : (l : List A) (i : ℕ) (x y : A) → get_elem? l i ≡ some x → get_elem? l i ≡ some y → x ≡ y
  at_one l i x y a b = some-injective x y (sym a ∙ b)

  pub seats_stay : (K : ℕ → A → Type 0) (l : List A) (i : ℕ) (w : A) → K i w → ((j : ℕ) (x : A) → j ≢ i → get_elem? l j ≡ some x → K j x) → (j : ℕ) (x : A) → get_elem? (set l i w) j ≡ some x → K j x
  seats_stay K l i w mine others j x e = ⊎_elim (λ (t : (j ≡ i) × (w ≡ x)). subst (λ (z : ℕ × A). K z.0 z.1) (λ c. (sym t.0 c, t.1 c)) mine)
      (λ (t : (j ≢ i) × (get_elem? l j ≡ some x)). others j x t.0 t.1) (at_set l i j w x e)

  pub unique_set : (key : A → Option ℕ) (l : List A) (i : ℕ) (w : A) → Unique key l → ((k j : ℕ) (x : A) → j ≢ i → get_elem? l j ≡ some x → key w ≡ Some k → key x ≡ Some k → ⊥) → Unique key (set l i w)
  unique_set key l i w u fresh a b k x y ax ay kx ky =
      ⊎_elim
      (λ (t : (a ≡ i) × (w ≡ x)). ⊎_elim
      (λ (p : (b ≡ i) × (w ≡ y)). t.0 ∙ sym p.0)
      (λ (p : (b ≢ i) × (get_elem? l b ≡ some y)). absurd (fresh k b y p.0 p.1 (ap key t.1 ∙ kx) ky))
      (at_set l i b w y ay))
      (λ (t : (a ≢ i) × (get_elem? l a ≡ some x)). ⊎_elim
      (λ (p : (b ≡ i) × (w ≡ y)). absurd (fresh k a x t.0 t.1 (ap key p.1 ∙ ky) kx))
      (λ (p : (b ≢ i) × (get_elem? l b ≡ some y)). u a b k x y t.1 p.1 kx ky)
      (at_set l i b w y ay))
      (at_set l i a w x ax)

  pub same_key : (key : A → Option ℕ) (l : List A) (i : ℕ) (v w : A) → Unique key l → get_elem? l i ≡ some v → key w ≡ key v → (k j : ℕ) (x : A) → j ≢ i → get_elem? l j ≡ some x → key w ≡ Some k → key x ≡ Some k → ⊥
  same_key key l i v w u at same k j x other there kw kx = other (u j i k x v there at kx (sym same ∙ kw))

  pub starts_more : (xs ys seen : List A) → StartsWith xs seen → StartsWith ys xs → StartsWith ys seen
  starts_more xs ys seen a b = (a.0 ++ b.0, b.1 ∙ ap (λ l. l ++ b.0) a.1 ∙ append_assoc seen a.0 b.0)

  pub starts_whole : (xs : List A) → StartsWith xs xs
  starts_whole xs = ([], sym (append-nil xs))

  pub at_inside : (l : List A) (i : ℕ) (x : A) → get_elem? l i ≡ some x → i < length l
  at_inside [] i x e = absurd (some-ne-none x (sym e))
  at_inside (y ∷ ys) zero x e = omega arith
  at_inside (y ∷ ys) (suc i) x e = let r = at_inside ys i x e in omega arith

  -- what a seat carries, by what it took
  pub alone : (l : List (ℕ × A)) (x : A) → l ≡ (0, x) ∷ [] → l ≡ (0, x) ∷ rest l
  alone l x e = e ∙ ap (λ m. (0, x) ∷ rest m) (sym e)

  head_is : (d : A) → List (ℕ × A) → A
  head_is d [] = d
  head_is d (x ∷ xs) = x.1

  pub same_head : (l : List (ℕ × A)) (x y : A) → l ≡ (0, x) ∷ [] → l ≡ (0, y) ∷ rest l → x ≡ y
  unfolding head_is
  same_head l x y e h = ap (head_is x) (sym e ∙ h)

  pub total_snoc : (f : A → ℕ) (l : List A) (a : A) → total f (l ++ a ∷ []) ≡ total f l + f a
  total_snoc f [] a = omega arith
  total_snoc f (x ∷ xs) a = let r = total_snoc f xs a in omega arith

  pub at_end : (l : List A) (a b : A) (j : ℕ) → get_elem? (l ++ a ∷ []) j ≡ some b → (get_elem? l j ≡ some b) ⊎ ((j ≡ length l) × (a ≡ b))
  at_end [] a b zero e = inr (refl, some-injective a b e)
  at_end [] a b (suc j) e = absurd (some-ne-none b (sym e))
  at_end (x ∷ xs) a b zero e = inl e
  at_end (x ∷ xs) a b (suc j) e = ⊎_elim (λ t. inl t) (λ t. let n = t.0 in inr (omega arith, t.1)) (at_end xs a b j e)

  pub unique_snoc : (key : A → Option ℕ) (l : List A) (w : A) → Unique key l → ((k j : ℕ) (x : A) → get_elem? l j ≡ some x → key w ≡ Some k → key x ≡ Some k → ⊥) → Unique key (l ++ w ∷ [])
  unique_snoc key l w u fresh a b k x y ax ay kx ky =
      ⊎_elim
      (λ (t : get_elem? l a ≡ some x). ⊎_elim
      (λ (p : get_elem? l b ≡ some y). u a b k x y t p kx ky)
      (λ (p : (b ≡ length l) × (w ≡ y)). absurd (fresh k a x t (ap key p.1 ∙ ky) kx))
      (at_end l w y b ay))
      (λ (t : (a ≡ length l) × (w ≡ x)). ⊎_elim
      (λ (p : get_elem? l b ≡ some y). absurd (fresh k b y p (ap key t.1 ∙ kx) ky))
      (λ (p : (b ≡ length l) × (w ≡ y)). t.0 ∙ sym p.0)
      (at_end l w y b ay))
      (at_end l w x a ax)

  pub all_snoc : (K : ℕ → A → Type 0) (l : List A) (w : A) → ((j : ℕ) (x : A) → get_elem? l j ≡ some x → K j x) → ((j : ℕ) → K j w) → (j : ℕ) (x : A) → get_elem? (l ++ w ∷ []) j ≡ some x → K j x
  all_snoc K l w all last j x e = ⊎_elim (λ (t : get_elem? l j ≡ some x). all j x t) (λ (t : (j ≡ length l) × (w ≡ x)). subst (K j) t.1 (last j)) (at_end l w x j e)

  pub one_view : (w : A) (j : ℕ) (x : A) → get_elem? (w ∷ []) j ≡ some x → (j ≡ 0) × (w ≡ x)
  one_view w zero x e = (refl, some-injective w x e)
  one_view w (suc j) x e = absurd (some-ne-none x (sym e))
