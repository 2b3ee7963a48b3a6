-- The join of what is made of each entry of a tree.
use Rattle.std.proofs.Common.{◌≡◌, ℕ, ◌≤◌, Bool, true, false, cond, List, [], ◌∷◌, ◌++◌, refl, ap, ◌∙◌, sym, subst, inl, inr, ◌⊎◌, arith, take, drop, length, get_or}
use Rattle.std.specs.FinMap.{empty, entries}
use Rattle.std.proofs.lemmas.List.{take-append-drop}
use Rattle.path_trees.specs.declared.spots.Spot.{Spot}
use Rattle.path_trees.specs.declared.spots.Entry.{Entry}
use Rattle.path_trees.specs.Trees.{TreeMap, Below, IsWithin, pairs_of}
use Rattle.path_trees.specs.Operations.{joined}
use Rattle.path_trees.proofs.Finite.{Listed, below_refl, below_trans, below_antisymm}
use Rattle.path_trees.proofs.TreeLaws.{Within, join_first, join_second, join_least, join-mono, join_swap, join_empty}
use Rattle.rows.specs.Rules.{join_of}

pub empty_below : (t : TreeMap) → Below empty t
empty_below t = let P : TreeMap → Type 0 = λ z. Below empty z in subst P (sym (join_empty t)) (join_second t empty)

pub join-assoc : (t u v : TreeMap) → joined (joined t u) v ≡ joined t (joined u v)
join-assoc t u v = below_antisymm _ _
    (join_least (joined t u) v _
    (join_least t u _ (join_first t (joined u v)) (below_trans (join_first u v) (join_second t (joined u v))))
    (below_trans (join_second u v) (join_second t (joined u v))))
    (join_least t (joined u v) _
    (below_trans (join_first t u) (join_first (joined t u) v))
    (join_least u v _ (below_trans (join_second t u) (join_first (joined t u) v)) (join_second (joined t u) v)))

pub empty_join : (t : TreeMap) → t ≡ joined empty t
empty_join t = join_empty t ∙ join_swap t empty

pub join_of-append : (f : Spot → ℕ → TreeMap) (xs ys : List (Spot × ℕ)) → join_of f (xs ++ ys) ≡ joined (join_of f xs) (join_of f ys)
join_of-append f [] ys = empty_join (join_of f ys)
join_of-append f (x ∷ xs) ys = ap (joined (f x.0 x.1)) (join_of-append f xs ys) ∙ sym (join-assoc (f x.0 x.1) (join_of f xs) (join_of f ys))

pub pairs_of-append : (xs ys : List Entry) → pairs_of (xs ++ ys) ≡ pairs_of xs ++ pairs_of ys
pairs_of-append [] ys = refl
pairs_of-append (x ∷ xs) ys = ap (λ z. (x.spot, x.distance) ∷ z) (pairs_of-append xs ys)

-- what is made of a tree's entry is less where the distance is greater
pub record Falls (f : Spot → ℕ → TreeMap) : Type 0 where
  pub at : (s : Spot) (d e : ℕ) → d ≤ e → Below (f s e) (f s d)

pub join_of_listed : (f : Spot → ℕ → TreeMap) → Falls f → (xs : List (Spot × ℕ)) (s : Spot) (d : ℕ) → Listed xs s d → Below (f s d) (join_of f xs)
join_of_listed f h [] s d l = absurd l
join_of_listed f h (x ∷ xs) s d (inl p) =
    let P : Spot → Type 0 = λ z. Below (f z d) (joined (f x.0 x.1) (join_of f xs)) in
    subst P p.0 (below_trans (h.at x.0 x.1 d p.1) (join_first (f x.0 x.1) (join_of f xs)))
join_of_listed f h (x ∷ xs) s d (inr p) = below_trans (join_of_listed f h xs s d p) (join_second (f x.0 x.1) (join_of f xs))

pub join_of_least : (f : Spot → ℕ → TreeMap) (xs : List (Spot × ℕ)) (u : TreeMap) → ((s : Spot) (d : ℕ) → Listed xs s d → Below (f s d) u) → Below (join_of f xs) u
join_of_least f [] u h = empty_below u
join_of_least f (x ∷ xs) u h =
    join_least (f x.0 x.1) (join_of f xs) u (h x.0 x.1 (inl (refl, omega arith))) (join_of_least f xs u (λ s d l. h s d (inr l)))

pub join_of-mono : (f g : Spot → ℕ → TreeMap) (xs ys : List (Spot × ℕ)) → ((s : Spot) (d : ℕ) → Below (f s d) (g s d)) → Falls g → Within xs ys → Below (join_of f xs) (join_of g ys)
join_of-mono f g xs ys h fall w =
    join_of_least f xs (join_of g ys) (λ s d l. below_trans (h s d) (join_of_listed g fall ys s d (w.at s d l)))

pub join_of_parts : (f : Spot → ℕ → TreeMap) (n : ℕ) (es front back : List Entry) (t u : TreeMap) → front ≡ take n es → back ≡ drop n es → t ≡ join_of f (pairs_of front) → u ≡ join_of f (pairs_of back) → joined t u ≡ join_of f (pairs_of es)
join_of_parts f n es front back t u p q r s =
    ap (λ z. joined z u) (r ∙ ap (λ z. join_of f (pairs_of z)) p)
    ∙ ap (joined (join_of f (pairs_of (take n es)))) (s ∙ ap (λ z. join_of f (pairs_of z)) q)
    ∙ sym (join_of-append f (pairs_of (take n es)) (pairs_of (drop n es)))
    ∙ ap (join_of f) (sym (pairs_of-append (take n es) (drop n es)))
    ∙ ap (λ z. join_of f (pairs_of z)) (take-append-drop n es)

-- one entry alone
pub join_of_one : (f : Spot → ℕ → TreeMap) (es : List Entry) (e : Entry) → length es ≡ 1 → e ≡ get_or es 0 e → f e.spot e.distance ≡ join_of f (pairs_of es)
join_of_one f [] e l h = absurd (omega arith)
join_of_one f (x ∷ []) e l h = ap (λ (z : Entry). f z.spot z.distance) h ∙ join_empty (f x.spot x.distance)
join_of_one f (x ∷ y ∷ es) e l h = absurd (omega arith)
