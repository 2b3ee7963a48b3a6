-- The order of bytes that differ early.
use Rattle.std.proofs.Common.{◌≡◌, ◌<◌, ℕ, zero, suc, ◌+◌, List, [], ◌∷◌, length, take, get_or, refl, sym, ◌∙◌, ap, arith}
use Rattle.std.proofs.lemmas.Grind.{take_at_read}
use Rattle.std.specs.Ordering.{nat_cmp, ordering_then, MatchOrdering}
use Rattle.std.specs.declared.cmp.Ordering.{Ordering}
use Rattle.std.specs.declared.cmp.Ordering.TheVariants.{Less, Equal, Greater}
use Rattle.std.specs.Cmp.{nat_cmp_is, ranks}
use Rattle.std.specs.Cmp.Lexicographic.{slice_cmp}

-- an order that isn't a tie is told by the heads
first_tells : (o rest : Ordering) → (o ≡ Equal → ⊥) → o ≡ ordering_then o rest
first_tells Less rest other = refl
first_tells Equal rest other = absurd (other refl)
first_tells Greater rest other = refl

-- numbers that are tied are equal
tied : (x y : ℕ) (o : Ordering) → o ≡ Equal → MatchOrdering o (x < y) (x ≡ y) (y < x) → x ≡ y
tied x y o e ranked = rw e at ranked

-- equal heads leave the order to the rest
same_head : (x y : ℕ) (o : Ordering) → x ≡ y → o ≡ ordering_then (nat_cmp x y) o
same_head x y o e = rw (sym (nat_cmp_is x y Equal e)) refl

head : List ℕ → ℕ
head [] = 0
head (x ∷ xs) = x

tail : List ℕ → List ℕ
tail [] = []
tail (x ∷ xs) = xs

-- the first bytes that differ tell the order
pub told_by : (xs ys : List ℕ) (i : ℕ) → i < length xs → i < length ys → take i xs ≡ take i ys → (get_or xs i 0 ≡ get_or ys i 0 → ⊥) → nat_cmp (get_or xs i 0) (get_or ys i 0) ≡ slice_cmp nat_cmp xs ys
unfolding tail head
told_by [] ys i h k same other = absurd (omega (arith, h))
told_by (x ∷ xs) [] i h k same other = absurd (omega (arith, k))
told_by (x ∷ xs) (y ∷ ys) zero h k same other = first_tells (nat_cmp x y) (slice_cmp nat_cmp xs ys) (λ e. other (tied x y (nat_cmp x y) e (ranks x y)))
told_by (x ∷ xs) (y ∷ ys) (suc i) h k same other =
    told_by xs ys i (omega (arith, h)) (omega (arith, k)) (ap tail same) other ∙ same_head x y (slice_cmp nat_cmp xs ys) (ap head same)

-- one more byte that is the same
pub same_turn : (xs ys : List ℕ) (i : ℕ) → i < length xs → i < length ys → take i xs ≡ take i ys → get_or xs i 0 ≡ get_or ys i 0 → take (i + 1) xs ≡ take (i + 1) ys
same_turn xs ys i h k same e = rw ((take_at_read xs i 0 h).1, (take_at_read ys i 0 k).1, same, e) refl
