-- What reads a phrase gives: the laws that tie a reader to what it reads.
use Rattle.std.proofs.Common.{◌≡◌, ℕ, Bool, true, false, not, List, [], ◌∷◌, ◌++◌, length, refl, ap, length-append, arith}
use Rattle.phrases.specs.Laws.{with_rest, Front}
use Rattle.phrases.specs.Reading.{Outcome, rest}
use Rattle.phrases.specs.Sets.{has, apart, within, ends}

-- ---- sets

pub apart_has : (xs ys : List ℕ) (k : ℕ) → apart xs ys ≡ true → has xs k ≡ true → has ys k ≡ false
apart_has [] ys k e h = absurd cc
apart_has (x ∷ xs) ys k e h = grind (arith, apart_has xs ys k)

pub apart_none : (xs : List ℕ) → apart xs [] ≡ true
apart_none [] = refl
apart_none (x ∷ xs) = apart_none xs

pub has_left : (xs ys : List ℕ) (k : ℕ) → has (xs ++ ys) k ≡ false → has xs k ≡ false
has_left [] ys k e = refl
has_left (x ∷ xs) ys k e = grind (arith, has_left xs ys k)

pub has_right : (xs ys : List ℕ) (k : ℕ) → has (xs ++ ys) k ≡ false → has ys k ≡ false
has_right [] ys k e = e
has_right (x ∷ xs) ys k e = grind (arith, has_right xs ys k)

pub has_in_left : (xs ys : List ℕ) (k : ℕ) → has xs k ≡ true → has (xs ++ ys) k ≡ true
has_in_left [] ys k e = absurd cc
has_in_left (x ∷ xs) ys k e = grind (arith, has_in_left xs ys k)

pub has_in_right : (xs ys : List ℕ) (k : ℕ) → has ys k ≡ true → has (xs ++ ys) k ≡ true
has_in_right [] ys k e = e
has_in_right (x ∷ xs) ys k e = grind (arith, has_in_right xs ys k)

pub has_other : (xs ys : List ℕ) (k : ℕ) → has (xs ++ ys) k ≡ true → has xs k ≡ false → has ys k ≡ true
has_other [] ys k e h = e
has_other (x ∷ xs) ys k e h = grind (arith, has_other xs ys k)

pub not_true : (b : Bool) → not b ≡ true → b ≡ false
not_true true e = absurd cc
not_true false e = refl

pub ends_left : {T : Type 0} (class : T → ℕ) (xs ys : List ℕ) (ts : List T) → ends class (xs ++ ys) ts ≡ true → ends class xs ts ≡ true
ends_left class xs ys [] e = refl
ends_left class xs ys (t ∷ ts) e = ap not (has_left xs ys (class t) (not_true (has (xs ++ ys) (class t)) e))

pub ends_right : {T : Type 0} (class : T → ℕ) (xs ys : List ℕ) (ts : List T) → ends class (xs ++ ys) ts ≡ true → ends class ys ts ≡ true
ends_right class xs ys [] e = refl
ends_right class xs ys (t ∷ ts) e = ap not (has_right xs ys (class t) (not_true (has (xs ++ ys) (class t)) e))

pub within-has : (xs ys : List ℕ) (k : ℕ) → within xs ys ≡ true → has xs k ≡ true → has ys k ≡ true
within-has [] ys k e h = absurd cc
within-has (x ∷ xs) ys k e h = grind (arith, within-has xs ys k)

pub within-ends : {T : Type 0} (class : T → ℕ) (xs ys : List ℕ) (ts : List T) → within xs ys ≡ true → ends class ys ts ≡ true → ends class xs ts ≡ true
within-ends class xs ys [] w e = refl
within-ends class xs ys (t ∷ ts) w e = go (has xs (class t)) refl
  where
    go : (b : Bool) → has xs (class t) ≡ b → not (has xs (class t)) ≡ true
    go true h = absurd (cc (within-has xs ys (class t) w h, not_true (has ys (class t)) e))
    go false h = rw h refl

pub within-not : (xs ys : List ℕ) (k : ℕ) → within xs ys ≡ true → has ys k ≡ false → has xs k ≡ false
within-not xs ys k w e = go (has xs k) refl
  where
    go : (b : Bool) → has xs k ≡ b → has xs k ≡ false
    go true h = absurd (cc (within-has xs ys k w h, e))
    go false h = h

pub append_none : {T : Type 0} (x : List T) → x ++ [] ≡ x
append_none [] = refl
append_none (t ∷ x) = ap (λ (v : List _). t ∷ v) (append_none x)

-- no list is longer than itself
pub not_longer : {T : Type 0} (a : T) (u v x : List T) → x ≡ (a ∷ u) ++ (v ++ x) → ⊥
not_longer a u v x e = let n = ap length e in absurd (omega (arith, n, length-append (a ∷ u) (v ++ x), length-append v x))

pub local-on : {T A : Type 0} {P P+ : List T → A → Type 0} {O : List T → Type 0} {r : List T → Outcome T A} {ts : List T} {o : Outcome T A} (fr : Front P P+ O r ts o) (x : List T) (t : T) (w z : List T) → rest o ≡ x ++ t ∷ w → r (fr.taken ++ (x ++ t ∷ z)) ≡ with_rest o (x ++ t ∷ z)
local-on fr [] t w z e = fr.local t w z e
local-on fr (s ∷ x) t w z e = fr.local s (x ++ t ∷ w) (x ++ t ∷ z) e
