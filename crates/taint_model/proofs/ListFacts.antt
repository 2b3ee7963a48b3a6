-- Lists of trees, place by place.
use Rattle.std.proofs.Common.{◌≡◌, ℕ, ◌+◌, ◌<◌, List, [], ◌∷◌, ◌++◌, refl, ap, ◌∙◌, sym, subst, arith, length, take, drop, get_or, add-one, suc}
use Rattle.std.proofs.Math.Seq.{drop-cons}
use Rattle.std.proofs.lemmas.List.{length-replicate, take_more, replicate-append-replicate}
use Rattle.std.specs.FinMap.{empty}
use Rattle.path_trees.specs.Trees.{IsHeldTree, TreeMap}
use Rattle.path_trees.proofs.Finite.{below_refl, below_trans, below_antisymm}
use Rattle.path_trees.proofs.TreeLaws.{join_first, join_second, join_least}
use Rattle.taint_model.proofs.TreeFacts.{empty_below}
use Rattle.taint_model.specs.Lists.{AreTreesHeld, TreesBelow, empty_trees, joined_trees}

-- one more empty tree
pub empty_trees_more : (n : ℕ) → empty_trees (n + 1) ≡ empty_trees n ++ empty ∷ []
empty_trees_more n = sym (replicate-append-replicate n 1 empty)

-- what is left begins with the next one
pub next_of : (ts : List TreeMap) (i : ℕ) (t : TreeMap) → i < length ts → t ≡ get_or ts i t → drop i ts ≡ t ∷ drop (i + 1) ts
next_of ts i t h e = rw add-one (drop-cons ts i t h ∙ ap (λ z. z ∷ drop (suc i) ts) (sym e))

held_append : (ts us : List TreeMap) → AreTreesHeld ts → AreTreesHeld us → AreTreesHeld (ts ++ us)
held_append [] us h k = k
held_append (t ∷ ts) us h k = (h.0, held_append ts us h.1 k)

pub held_more : (ts : List TreeMap) (i : ℕ) (t : TreeMap) → i < length ts → t ≡ get_or ts i t → AreTreesHeld (take i ts) → IsHeldTree t → AreTreesHeld (take (i + 1) ts)
held_more ts i t h e k held =
    subst AreTreesHeld (sym (take_more ts i t h)) (held_append (take i ts) (get_or ts i t ∷ []) k (subst IsHeldTree e held, tt))

-- the order of lists is partial
pub trees_refl : (ts : List TreeMap) → TreesBelow ts ts
trees_refl [] = tt
trees_refl (t ∷ ts) = (below_refl t, trees_refl ts)

pub trees_trans : (ts us vs : List TreeMap) → TreesBelow ts us → TreesBelow us vs → TreesBelow ts vs
trees_trans [] [] [] h k = tt
trees_trans [] [] (v ∷ vs) h k = k
trees_trans [] (u ∷ us) vs h k = absurd h
trees_trans (t ∷ ts) [] vs h k = absurd h
trees_trans (t ∷ ts) (u ∷ us) [] h k = absurd k
trees_trans (t ∷ ts) (u ∷ us) (v ∷ vs) h k = (below_trans h.0 k.0, trees_trans ts us vs h.1 k.1)

pub trees_antisymm : (ts us : List TreeMap) → TreesBelow ts us → TreesBelow us ts → ts ≡ us
trees_antisymm [] [] h k = refl
trees_antisymm [] (u ∷ us) h k = absurd h
trees_antisymm (t ∷ ts) [] h k = absurd h
trees_antisymm (t ∷ ts) (u ∷ us) h k = ap (λ z. z ∷ ts) (below_antisymm t u h.0 k.0) ∙ ap (λ z. u ∷ z) (trees_antisymm ts us h.1 k.1)

-- their join is the least upper bound
pub trees_join_first : (ts us : List TreeMap) → length ts ≡ length us → TreesBelow ts (joined_trees ts us)
trees_join_first [] us e = tt
trees_join_first (t ∷ ts) [] e = absurd (omega arith)
trees_join_first (t ∷ ts) (u ∷ us) e = (join_first t u, trees_join_first ts us (omega arith))

pub trees_join_second : (ts us : List TreeMap) → length ts ≡ length us → TreesBelow us (joined_trees ts us)
trees_join_second [] [] e = tt
trees_join_second [] (u ∷ us) e = absurd (omega arith)
trees_join_second (t ∷ ts) [] e = absurd (omega arith)
trees_join_second (t ∷ ts) (u ∷ us) e = (join_second t u, trees_join_second ts us (omega arith))

pub trees_join_least : (ts us vs : List TreeMap) → TreesBelow ts vs → TreesBelow us vs → TreesBelow (joined_trees ts us) vs
trees_join_least [] us [] h k = tt
trees_join_least [] us (v ∷ vs) h k = absurd h
trees_join_least (t ∷ ts) [] [] h k = tt
trees_join_least (t ∷ ts) [] (v ∷ vs) h k = absurd k
trees_join_least (t ∷ ts) (u ∷ us) [] h k = absurd h
trees_join_least (t ∷ ts) (u ∷ us) (v ∷ vs) h k = (join_least t u v h.0 k.0, trees_join_least ts us vs h.1 k.1)

-- how many trees there are
pub length_below : (ts us : List TreeMap) → TreesBelow ts us → length ts ≡ length us
length_below [] [] h = refl
length_below [] (u ∷ us) h = absurd h
length_below (t ∷ ts) [] h = absurd h
length_below (t ∷ ts) (u ∷ us) h = ap suc (length_below ts us h.1)

pub length_joined : (ts us : List TreeMap) → length ts ≡ length us → length (joined_trees ts us) ≡ length ts
length_joined [] us e = refl
length_joined (t ∷ ts) [] e = absurd (omega arith)
length_joined (t ∷ ts) (u ∷ us) e = ap suc (length_joined ts us (omega arith))

pub length_empty_trees : (n : ℕ) → length (empty_trees n) ≡ n
length_empty_trees n = length-replicate n empty

-- empty trees are below all others
pub empty_trees_below : (ts : List TreeMap) → TreesBelow (empty_trees (length ts)) ts
empty_trees_below [] = tt
empty_trees_below (t ∷ ts) = (empty_below t, empty_trees_below ts)
