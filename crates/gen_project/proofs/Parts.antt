-- Texts in parts of fifty.
use Rattle.std.proofs.Common.{◌≡◌, ℕ, zero, suc, ◌+◌, ◌-◌, ◌*◌, ◌⊎◌, inl, inr, min, List, ◌++◌, ap, sym, ◌∙◌, arith, append_assoc, append-nil}
use Rattle.gen_project.specs.Joined.{joined}

-- some texts and those that follow them are all of them
joined-append : (f : ℕ → List ℕ) (a m n : ℕ) → joined f a m ++ joined f (a + m) n ≡ joined f a (m + n)
unfolding joined
joined-append f a m zero =
    let total : m ≡ m + 0 = omega arith in
    append-nil (joined f a m) ∙ ap (λ t. joined f a t) total
joined-append f a m (suc n) =
    let total : suc (m + n) ≡ m + suc n = omega arith in
    let last : a + m + n ≡ a + (m + n) = omega arith in
    sym (append_assoc (joined f a m) (joined f (a + m) n) (f (a + m + n)))
    ∙ ap (λ x. x ++ f (a + m + n)) (joined-append f a m n)
    ∙ ap (λ t. joined f a (m + n) ++ f t) last
    ∙ ap (λ t. joined f a t) total

-- the same where the second part is empty or begins where the first ends
then-part : (f : ℕ → List ℕ) (m b n total : ℕ) → total ≡ m + n → (n ≡ 0) ⊎ (b ≡ m) →
    joined f 0 m ++ joined f b n ≡ joined f 0 total
unfolding joined
then-part f m b n total sum (inl none) =
    let same : m ≡ total = omega arith in
    ap (λ t. joined f 0 m ++ joined f b t) none
    ∙ append-nil (joined f 0 m)
    ∙ ap (λ t. joined f 0 t) same
then-part f m b n total sum (inr next) =
    let begins : b ≡ 0 + m = omega arith in
    ap (λ t. joined f 0 m ++ joined f t n) begins
    ∙ joined-append f 0 m n
    ∙ ap (λ t. joined f 0 t) (sym sum)

abbrev part : (ℕ → List ℕ) → ℕ → ℕ → List ℕ
part f size own = joined f (50 * own) (min 50 (size - 50 * own))

empty-or-next : (size k : ℕ) → (min 50 (size - 50 * k) ≡ 0) ⊎ (50 * k ≡ min (50 * k) size)
empty-or-next size k = grind arith

pub parts-joined : (f : ℕ → List ℕ) (size k : ℕ) → joined (part f size) 0 k ≡ joined f 0 (min (50 * k) size)
unfolding joined
parts-joined f size zero = let none : 0 ≡ min (50 * 0) size = omega arith in ap (λ t. joined f 0 t) none
parts-joined f size (suc k) =
    let at : 0 + k ≡ k = omega arith in
    let total : min (50 * suc k) size ≡ min (50 * k) size + min 50 (size - 50 * k) = omega arith in
    ap (λ t. joined (part f size) 0 k ++ part f size t) at
    ∙ ap (λ x. x ++ part f size k) (parts-joined f size k)
    ∙ then-part f (min (50 * k) size) (50 * k) (min 50 (size - 50 * k)) (min (50 * suc k) size) total (empty-or-next size k)
