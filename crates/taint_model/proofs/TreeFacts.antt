-- More facts about trees and their joins.
use Rattle.std.proofs.Common.{◌≡◌, ℕ, ◌≤◌, true, List, [], ◌∷◌, ◌++◌, Option, refl, ap, ◌∙◌, sym, subst, ◌==◌, ◌<◌, arith, take, drop, length, get_or}
use Rattle.std.proofs.lemmas.List.{take-append-drop}
use Rattle.std.specs.FinMap.{empty, entries, get-empty, len, len-empty, len-entries, empty_of_len}
use Rattle.std.proofs.lemmas.Bool.Decides.{Decides-eqb}
use Rattle.path_trees.specs.declared.spots.Spot.{Spot}
use Rattle.path_trees.specs.Spots.{spot_order}
use Rattle.path_trees.specs.Trees.{Below, IsWithin, TreeMap}
use Rattle.path_trees.specs.Operations.{joined}
use Rattle.path_trees.proofs.Finite.{below_refl, below_trans, below_antisymm}
use Rattle.path_trees.proofs.TreeLaws.{join_first, join_second, join_least, join-mono, join_empty, join_swap}
use Rattle.taint_model.specs.Puts.{joined_all}

pub below_of : {t u : TreeMap} → t ≡ u → Below t u
below_of {t} {u} e = subst (λ (z : TreeMap). Below t z) e (below_refl t)

pub empty_below : (t : TreeMap) → Below empty t
empty_below t = record { at = λ s d h. absurd (subst (λ (o : Option ℕ). IsWithin o d) (get-empty spot_order s) h) }

-- what is below the empty tree is empty
pub below_empty : (t : TreeMap) → Below t empty → t ≡ empty
below_empty t h = below_antisymm t empty h (empty_below t)

pub entries_empty : entries (let t : TreeMap = empty in t) ≡ []
entries_empty = go (entries (let t : TreeMap = empty in t)) (sym (len-entries (let t : TreeMap = empty in t)) ∙ len-empty spot_order ℕ)
  where
    go : (es : List (Spot × ℕ)) → length es ≡ 0 → es ≡ []
    go [] h = refl
    go (e ∷ es) h = absurd (omega arith)

pub empty_of_test : (t : TreeMap) → (len t == 0) ≡ true → t ≡ empty
empty_of_test t h = empty_of_len t ((Decides-eqb (len t) 0).0 h)

pub test_of_empty : (t : TreeMap) → t ≡ empty → (len t == 0) ≡ true
test_of_empty t h = (Decides-eqb (len t) 0).1 (ap (λ (z : TreeMap). len z) h ∙ len-empty spot_order ℕ)

-- a join that is empty joins empty trees
pub join_is_empty : (t u : TreeMap) → joined t u ≡ empty → u ≡ empty
join_is_empty t u e = below_empty u (subst (λ (z : TreeMap). Below u z) e (join_second t u))

pub empty_join : (t : TreeMap) → joined empty t ≡ t
empty_join t = join_swap empty t ∙ sym (join_empty t)

pub join_apart : (t u v : TreeMap) → joined (joined t u) v ≡ joined t (joined u v)
join_apart t u v =
    below_antisymm (joined (joined t u) v) (joined t (joined u v))
    (join_least (joined t u) v (joined t (joined u v)) (join-mono t u t (joined u v) (below_refl t) (join_first u v)) (below_trans (join_second u v) (join_second t (joined u v))))
    (join_least t (joined u v) (joined (joined t u) v) (below_trans (join_first t u) (join_first (joined t u) v)) (join-mono u v (joined t u) v (join_second t u) (below_refl v)))

pub join_all-append : (ts us : List TreeMap) → joined_all (ts ++ us) ≡ joined (joined_all ts) (joined_all us)
join_all-append [] us = sym (empty_join (joined_all us))
join_all-append (t ∷ ts) us = ap (joined t) (join_all-append ts us) ∙ sym (join_apart t (joined_all ts) (joined_all us))

-- the join of some trees is that of the joins of two parts
pub join_all_halves : (n : ℕ) (ts front back : List TreeMap) (t u : TreeMap) → front ≡ take n ts → back ≡ drop n ts → t ≡ joined_all front → u ≡ joined_all back → joined t u ≡ joined_all ts
join_all_halves n ts front back t u f b p q =
    ap (λ z. joined z u) (p ∙ ap joined_all f) ∙ ap (joined (joined_all (take n ts))) (q ∙ ap joined_all b) ∙ sym (join_all-append (take n ts) (drop n ts)) ∙ ap joined_all (take-append-drop n ts)

pub join_all_single : (ts : List TreeMap) (t : TreeMap) → 1 ≤ length ts → length ts < 2 → t ≡ get_or ts 0 t → t ≡ joined_all ts
join_all_single [] t h k e = absurd (omega arith)
join_all_single (u ∷ []) t h k e = e ∙ join_empty u
join_all_single (u ∷ v ∷ ts) t h k e = absurd (omega arith)
