-- Chains of values, and the exchange that adds one.
use Rattle.std.proofs.Common.{◌≡◌, ℕ, ◌+◌, ◌<◌, ◌==◌, Bool, true, false, List, [], ◌∷◌, ◌++◌, length, refl, ap, sym, subst, arith, inl, length-append, Some, None}
use Rattle.std.proofs.lemmas.List.{append-nil}
use Rattle.std.proofs.lemmas.Bool.Decides.{nat_tests}
use mathlib.Core.List.{IsPrefix}
use prog.Atomic.{either}
use Rattle.logbook.specs.Pages.{Cell, cell, keeps, no_nib, step, Moves, Goes}
use Rattle.publish.specs.Posts.{last_of, list_of, last_list, IsChain}
use Rattle.publish.specs.Books.{MayFollow, IsKept, Adds}
use Rattle.publish.proofs.Prefixes.{prefix_self, prefix_trans, prefix_whole}

-- the value that is added is the last
pub last_push : {R : Type 0} (xs : List R) (x : R) → last_of (xs ++ x ∷ []) ≡ Some x
last_push [] x = refl
last_push (y ∷ []) x = refl
last_push (y ∷ z ∷ zs) x = last_push (z ∷ zs) x

module _ {R I : Type 0} (list : R → List I) where
  -- the last list is that of the last value
  pub list_is : (xs : List R) (x : R) → last_of xs ≡ Some x → last_list list xs ≡ list x
  list_is xs x e = ap (list_of list) e

  chain_push : (log : List R) (x : R) → IsChain list log → MayFollow list log x → IsChain list (log ++ x ∷ [])
  chain_push [] x chain may = tt
  chain_push (y ∷ []) x chain may = (may, tt)
  chain_push (y ∷ z ∷ zs) x chain may = (chain.0, chain_push (z ∷ zs) x chain.1 may)

  -- a beginning of a chain is a chain
  pub chain_front : (xs whole : List R) → IsPrefix xs whole → IsChain list whole → IsChain list xs
  chain_front [] whole p chain = tt
  chain_front (x ∷ []) whole p chain = tt
  chain_front (x ∷ y ∷ ys) whole p chain =
      let chain' : IsChain list (x ∷ y ∷ (ys ++ p.0)) = subst (IsChain list) (sym p.1) chain in
      (chain'.0, chain_front (y ∷ ys) (y ∷ (ys ++ p.0)) (p.0, refl) chain'.1)

  -- the first value's list begins the last one's
  from_first : (x : R) (xs : List R) → IsChain list (x ∷ xs) → IsPrefix (list x) (last_list list (x ∷ xs))
  from_first x [] chain = prefix_self (list x)
  from_first x (y ∷ ys) chain = prefix_trans (list x) (list y) (last_list list (y ∷ ys)) chain.0 (from_first y ys chain.1)

  -- the list that was last at a beginning of a chain begins the last one
  pub front_list : (xs whole : List R) → IsPrefix xs whole → IsChain list whole → IsPrefix (last_list list xs) (last_list list whole)
  front_list [] whole p chain = (last_list list whole, refl)
  front_list (x ∷ []) whole p chain =
      let P : List R → Type 0 = λ l. IsPrefix (list x) (last_list list l) in
      subst P p.1 (from_first x p.0 (subst (IsChain list) (sym p.1) chain))
  front_list (x ∷ y ∷ ys) whole p chain =
      let chain' : IsChain list (x ∷ y ∷ (ys ++ p.0)) = subst (IsChain list) (sym p.1) chain in
      let P : List R → Type 0 = λ l. IsPrefix (last_list list (y ∷ ys)) (last_list list l) in
      subst P p.1 (front_list (y ∷ ys) (y ∷ (ys ++ p.0)) (p.0, refl) chain'.1)

  abbrev shown : List R → List R
  shown log = []

  abbrev moved : List R → List R → ℕ → Type 0
  moved xs ys n = Unit {0}

  adds_goes : (log v : List R) (e : R) (old : ℕ) → length v ≡ old → MayFollow list v e → IsChain list log → IsPrefix v log
      → (b : Bool) → (length log == old) ≡ b
      → Goes (IsKept list) shown moved 0 (v, (no_nib, None)) (λ n. either (n == old) (old + 1) n) (Adds (step 0 old (old + 1) e) (v, (no_nib, None))) ((length log, true) ∷ (0, true) ∷ []) log
  adds_goes log v e old len may chain pre true is =
      let here : length log ≡ old = grind (arith, nat_tests) in
      let same : v ≡ log = prefix_whole v log pre (omega arith) in
      let chain' : IsChain list (log ++ e ∷ []) = chain_push log e chain (subst (λ (l : List R). MayFollow list l e) same may) in
      let n : either (length log == old) (old + 1) (length log) ≡ length (log ++ e ∷ []) = rw is (omega (arith, length-append log (e ∷ []))) in (
        keeps,
        e ∷ [],
        None,
        tt,
        record { words = ap (λ (k : ℕ). (k, true) ∷ (0, true) ∷ []) n; chain = chain' },
        inl (refl, refl),
        rw is (ap (λ w. w ++ e ∷ []) (sym same)),
      )
  adds_goes log v e old len may chain pre false is =
      let all : log ++ [] ≡ log = append-nil log in
      let chain' : IsChain list (log ++ []) = subst (IsChain list) (sym all) chain in
      let n : either (length log == old) (old + 1) (length log) ≡ length (log ++ []) = rw is (ap length (sym all)) in (
        keeps,
        [],
        None,
        tt,
        record { words = ap (λ (k : ℕ). (k, true) ∷ (0, true) ∷ []) n; chain = chain' },
        inl (refl, refl),
        rw is (ap length all),
      )

  -- whatever the book is, the exchange adds the value to all that was seen, or finds that there are other posts
  pub adds_moves : (v : List R) (e : R) (old : ℕ) → length v ≡ old → MayFollow list v e
      → Moves (IsKept list) shown moved 0 (v, (no_nib, None)) (λ n. either (n == old) (old + 1) n) (Adds (step 0 old (old + 1) e) (v, (no_nib, None)))
  adds_moves v e old len may cs log kept pre away =
      let P : List Cell → Type 0 = λ c. (0 < length c) × ((cell c 0).1 ≡ true) × Goes (IsKept list) shown moved 0 (v, (no_nib, None)) (λ n. either (n == old) (old + 1) n) (Adds (step 0 old (old + 1) e) (v, (no_nib, None))) c log in
      subst P (sym kept.words) (omega arith, refl, adds_goes log v e old len may kept.chain pre (length log == old) refl)
