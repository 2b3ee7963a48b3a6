-- Fronts of one list.
use Rattle.std.proofs.Common.{ℕ, zero, suc, ◌+◌, List, [], ◌∷◌, take, refl, ap, add-one}
use mathlib.Core.List.{IsPrefix}

front_longer : {A : Type 0} (k : ℕ) (xs : List A) → IsPrefix (take k xs) (take (suc k) xs)
front_longer zero xs = (take 1 xs, refl)
front_longer (suc k) [] = ([], refl)
front_longer (suc k) (x ∷ xs) = let rest = front_longer k xs in (rest.0, ap (λ ys. x ∷ ys) rest.1)

-- a front begins the one that is longer by one
pub front_next : {A : Type 0} (k : ℕ) (xs : List A) → IsPrefix (take k xs) (take (k + 1) xs)
front_next k xs = rw add-one (front_longer k xs)
