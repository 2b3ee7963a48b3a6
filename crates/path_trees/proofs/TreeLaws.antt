-- The laws of the join and of the operations.
use Rattle.std.proofs.Common.{◌≡◌, ℕ, ◌≤◌, Bool, true, false, List, [], ◌∷◌, ◌++◌, Option, Some, None, refl, ap, ◌∙◌, sym, subst, inl, inr, ◌⊎◌, arith, ◌||◌, append_assoc}
use Rattle.std.specs.List.{list_any}
use Rattle.std.specs.FinMap.{empty, entries, get-empty}
use Rattle.path_trees.specs.declared.steps.Step.{Step}
use Rattle.path_trees.specs.declared.marks.Mark.{Mark}
use Rattle.path_trees.specs.declared.marks.Mark.TheVariants.{Source, Sink, Out}
use Rattle.path_trees.specs.declared.spots.Spot.{Spot}
use Rattle.path_trees.specs.declared.moves.Move.{Move}
use Rattle.path_trees.specs.declared.moves.Move.TheVariants.{Same, Bump, Part, Under, Without, Collapse}
use Rattle.path_trees.specs.Spots.{spot_order}
use Rattle.path_trees.specs.Moves.{move_spot, shift}
use Rattle.path_trees.specs.Trees.{TreeMap, IsWithin, Below, least_of}
use Rattle.path_trees.specs.Operations.{joined, image, images, moved, sub, grafted, taken, applied, spots_touch, trees_touch}
use Rattle.path_trees.proofs.Finite.{Listed, listed_left, listed_right, listed_split, least_listed, listed_least, stands_listed, listed_stands, below_refl, below_trans, below_antisymm}

-- one list lists what another does
pub record Within (xs ys : List (Spot × ℕ)) : Type 0 where
  pub at : (s : Spot) (d : ℕ) → Listed xs s d → Listed ys s d

pub least-mono : {xs ys : List (Spot × ℕ)} → Within xs ys → Below (least_of xs) (least_of ys)
least-mono {xs} {ys} h = record { at = λ s d p. listed_least ys s d (h.at s d (least_listed xs s d p)) }

pub least_same : (xs ys : List (Spot × ℕ)) → Within xs ys → Within ys xs → least_of xs ≡ least_of ys
least_same xs ys h k = below_antisymm (least_of xs) (least_of ys) (least-mono h) (least-mono k)

pub below_within : {t u : TreeMap} → Below t u → Within (entries t) (entries u)
below_within {t} {u} h = record { at = λ s d p. stands_listed u s d (h.at s d (listed_stands t s d p)) }

-- the join is the least upper bound
pub join_first : (t u : TreeMap) → Below t (joined t u)
join_first t u = record { at = λ s d h. listed_least (entries t ++ entries u) s d (listed_left (entries t) (entries u) s d (stands_listed t s d h)) }

pub join_second : (t u : TreeMap) → Below u (joined t u)
join_second t u = record { at = λ s d h. listed_least (entries t ++ entries u) s d (listed_right (entries t) (entries u) s d (stands_listed u s d h)) }

pub join_least : (t u v : TreeMap) → Below t v → Below u v → Below (joined t u) v
join_least t u v p q = record {
  at = λ s d h. elim (listed_split (entries t) (entries u) s d (least_listed (entries t ++ entries u) s d h)) [
    | inl a ↦ p.at s d (listed_stands t s d a)
    | inr b ↦ q.at s d (listed_stands u s d b)
  ];
}

pub join-mono : (t u v w : TreeMap) → Below t v → Below u w → Below (joined t u) (joined v w)
join-mono t u v w p q = join_least t u (joined v w) (below_trans p (join_first v w)) (below_trans q (join_second v w))

-- joining what is below changes nothing
pub join_below : (t u : TreeMap) → Below u t → t ≡ joined t u
join_below t u h = below_antisymm t (joined t u) (join_first t u) (join_least t u t (below_refl t) h)

pub join_swap : (t u : TreeMap) → joined t u ≡ joined u t
join_swap t u =
    below_antisymm (joined t u) (joined u t) (join_least t u (joined u t) (join_second u t) (join_first u t)) (join_least u t (joined t u) (join_second t u) (join_first t u))

pub join_empty : (t : TreeMap) → t ≡ joined t empty
join_empty t = join_below t empty (record { at = λ s d h. absurd (subst (λ (o : Option ℕ). IsWithin o d) (get-empty spot_order s) h) })

-- the map of two lists is the join of their maps
pub least-append : (xs ys : List (Spot × ℕ)) → least_of (xs ++ ys) ≡ joined (least_of xs) (least_of ys)
least-append xs ys = below_antisymm (least_of (xs ++ ys)) (joined (least_of xs) (least_of ys))
    (record {
      at = λ s d h. elim (listed_split xs ys s d (least_listed (xs ++ ys) s d h)) [
        | inl a ↦ (join_first (least_of xs) (least_of ys)).at s d (listed_least xs s d a)
        | inr b ↦ (join_second (least_of xs) (least_of ys)).at s d (listed_least ys s d b)
      ];
    })
    (join_least (least_of xs) (least_of ys) (least_of (xs ++ ys))
    (record { at = λ s d h. listed_least (xs ++ ys) s d (listed_left xs ys s d (least_listed xs s d h)) })
    (record { at = λ s d h. listed_least (xs ++ ys) s d (listed_right xs ys s d (least_listed ys s d h)) }))

-- a tree is the least map of its entries
pub least-entries : (t : TreeMap) → least_of (entries t) ≡ t
least-entries t = below_antisymm (least_of (entries t)) t
    (record { at = λ s d h. listed_stands t s d (least_listed (entries t) s d h) })
    (record { at = λ s d h. listed_least (entries t) s d (stands_listed t s d h) })

pub shift-mono : (m : Move) (a b : ℕ) → a ≤ b → shift m a ≤ shift m b
shift-mono Same a b h = h
shift-mono Bump a b h = omega arith
shift-mono (Part s) a b h = h
shift-mono (Under s) a b h = h
shift-mono (Without s) a b h = h
shift-mono Collapse a b h = h

image_nearer : (o : Option Spot) (a b : ℕ) → a ≤ b → (s : Spot) (d : ℕ) → Listed (image o b) s d → Listed (image o a) s d
image_nearer None a b h s d l = l
image_nearer (Some p) a b h s d (inl l) = inl (l.0, let k = l.1 in omega arith)
image_nearer (Some p) a b h s d (inr l) = absurd l

-- what a listed entry is moved to is listed among the images
listed_images : (m : Move) (xs : List (Spot × ℕ)) (s : Spot) (d : ℕ) → Listed xs s d → (q : Spot) (e : ℕ) → Listed (image (move_spot m s) (shift m d)) q e → Listed (images m xs) q e
listed_images m [] s d h q e l = absurd h
listed_images m (x ∷ xs) s d (inl p) q e l =
    listed_left (image (move_spot m x.0) (shift m x.1)) (images m xs) q e
    (image_nearer (move_spot m x.0) (shift m x.1) (shift m d) (shift-mono m x.1 d p.1) q e
    (subst (λ (z : Spot). Listed (image (move_spot m z) (shift m d)) q e) (sym p.0) l))
listed_images m (x ∷ xs) s d (inr p) q e l = listed_right (image (move_spot m x.0) (shift m x.1)) (images m xs) q e (listed_images m xs s d p q e l)

here : (e : Spot × ℕ) (es : List (Spot × ℕ)) → Listed (e ∷ es) e.0 e.1
here e es = inl (refl, omega arith)

-- images of a list that lists no more list no more
images_within : (m : Move) (xs ys : List (Spot × ℕ)) → Within xs ys → (q : Spot) (e : ℕ) → Listed (images m xs) q e → Listed (images m ys) q e
images_within m [] ys h q e l = absurd l
images_within m (x ∷ xs) ys h q e l =
    elim (listed_split (image (move_spot m x.0) (shift m x.1)) (images m xs) q e l) [
      | inl a ↦ listed_images m ys x.0 x.1 (h.at x.0 x.1 (here x xs)) q e a
      | inr b ↦ images_within m xs ys (record { at = λ s d k. h.at s d (inr k) }) q e b
    ]

pub images-mono : (m : Move) (xs ys : List (Spot × ℕ)) → Within xs ys → Within (images m xs) (images m ys)
images-mono m xs ys h = record { at = λ q e l. images_within m xs ys h q e l }

pub moved-mono : (m : Move) (t u : TreeMap) → Below t u → Below (moved m t) (moved m u)
moved-mono m t u h = least-mono (images-mono m (entries t) (entries u) (below_within h))

pub images-append : (m : Move) (xs ys : List (Spot × ℕ)) → images m (xs ++ ys) ≡ images m xs ++ images m ys
images-append m [] ys = refl
images-append m (x ∷ xs) ys = ap (λ z. image (move_spot m x.0) (shift m x.1) ++ z) (images-append m xs ys) ∙ sym (append_assoc (image (move_spot m x.0) (shift m x.1)) (images m xs) (images m ys))

-- the move of a map of a list
pub moved-least : (m : Move) (xs : List (Spot × ℕ)) → moved m (least_of xs) ≡ least_of (images m xs)
moved-least m xs = least_same (images m (entries (least_of xs))) (images m xs)
    (images-mono m (entries (least_of xs)) xs (record { at = λ s d l. least_listed xs s d (listed_stands (least_of xs) s d l) }))
    (images-mono m xs (entries (least_of xs)) (record { at = λ s d l. stands_listed (least_of xs) s d (listed_least xs s d l) }))

pub moved-join : (m : Move) (t u : TreeMap) → moved m (joined t u) ≡ joined (moved m t) (moved m u)
moved-join m t u =
    moved-least m (entries t ++ entries u) ∙ ap least_of (images-append m (entries t) (entries u)) ∙ least-append (images m (entries t)) (images m (entries u))

pub sub-mono : (p : List Step) (t u : TreeMap) → Below t u → Below (sub t p) (sub u p)
sub-mono [] t u h = h
sub-mono (s ∷ p) t u h = sub-mono p (moved (Part s) t) (moved (Part s) u) (moved-mono (Part s) t u h)

pub graft-mono : (p : List Step) (t u : TreeMap) → Below t u → Below (grafted p t) (grafted p u)
graft-mono [] t u h = h
graft-mono (s ∷ p) t u h = moved-mono (Under s) (grafted p t) (grafted p u) (graft-mono p t u h)

pub taken-mono : (flat : Bool) (t u : TreeMap) → Below t u → Below (taken flat t) (taken flat u)
taken-mono true t u h = moved-mono Collapse t u h
taken-mono false t u h = h

pub applied-mono : (p : List Step) (out : Mark) (t u : TreeMap) → Below t u → Below (applied t p out) (applied u p out)
applied-mono p (Source k l) t u h = below_refl empty
applied-mono p (Sink k l) t u h = below_refl empty
applied-mono p (Out port path flat) t u h = graft-mono path (taken flat (sub t p)) (taken flat (sub u p)) (taken-mono flat (sub t p) (sub u p) (sub-mono p t u h))

pub sub-join : (p : List Step) (t u : TreeMap) → sub (joined t u) p ≡ joined (sub t p) (sub u p)
sub-join [] t u = refl
sub-join (s ∷ p) t u = ap (λ (z : TreeMap). sub z p) (moved-join (Part s) t u) ∙ sub-join p (moved (Part s) t) (moved (Part s) u)

pub graft-join : (p : List Step) (t u : TreeMap) → grafted p (joined t u) ≡ joined (grafted p t) (grafted p u)
graft-join [] t u = refl
graft-join (s ∷ p) t u = ap (moved (Under s)) (graft-join p t u) ∙ moved-join (Under s) (grafted p t) (grafted p u)

pub taken-join : (flat : Bool) (t u : TreeMap) → taken flat (joined t u) ≡ joined (taken flat t) (taken flat u)
taken-join true t u = moved-join Collapse t u
taken-join false t u = refl

pub applied-join : (p : List Step) (out : Mark) (t u : TreeMap) → applied (joined t u) p out ≡ joined (applied t p out) (applied u p out)
applied-join p (Source k l) t u = join_empty empty
applied-join p (Sink k l) t u = join_empty empty
applied-join p (Out port path flat) t u =
    ap (λ (z : TreeMap). grafted path (taken flat z)) (sub-join p t u) ∙ ap (grafted path) (taken-join flat (sub t p) (sub u p)) ∙ graft-join path (taken flat (sub t p)) (taken flat (sub u p))

-- a test that holds of some spot of a list
abbrev Some_spot : (Spot → Bool) → List (Spot × ℕ) → Type 0
Some_spot f xs = (s : Spot) × (d : ℕ) × Listed xs s d × (f s ≡ true)

or_true : (a b : Bool) → (a || b) ≡ true → (a ≡ true) ⊎ (b ≡ true)
or_true true b h = inl refl
or_true false b h = inr h

true_or_left : (a b : Bool) → a ≡ true → (a || b) ≡ true
true_or_left true b h = refl
true_or_left false b h = absurd (cc)

true_or_right : (a b : Bool) → b ≡ true → (a || b) ≡ true
true_or_right true b h = refl
true_or_right false b h = h

any_some : (f : Spot → Bool) (xs : List (Spot × ℕ)) → list_any (λ a. f a.0) xs ≡ true → Some_spot f xs
any_some f [] h = absurd (cc)
any_some f (x ∷ xs) h = elim (or_true _ _ h) [ inl p ↦ (x.0, x.1, here x xs, p) | inr p ↦ (let r = any_some f xs p in (r.0, r.1, inr r.2, r.3)) ]

some_any : (f : Spot → Bool) (xs : List (Spot × ℕ)) → Some_spot f xs → list_any (λ a. f a.0) xs ≡ true
some_any f [] h = absurd h.2
some_any f (x ∷ xs) h = elim h.2 [
  | inl p ↦ true_or_left _ _ (subst (λ (z : Spot). f z ≡ true) (sym p.0) h.3)
  | inr p ↦ true_or_right _ _ (some_any f xs (h.0, h.1, p, h.3))
]

any-mono : (f : Spot → Bool) (xs ys : List (Spot × ℕ)) → Within xs ys → list_any (λ a. f a.0) xs ≡ true → list_any (λ a. f a.0) ys ≡ true
any-mono f xs ys h k = let r = any_some f xs k in some_any f ys (r.0, r.1, h.at r.0 r.1 r.2, r.3)

pub touch-mono : (t u v w : TreeMap) → Below t v → Below u w → trees_touch t u ≡ true → trees_touch v w ≡ true
touch-mono t u v w p q h =
    let f : TreeMap → Spot → Bool = λ z a. list_any (λ b. spots_touch a b.0) (entries z) in
    let r = any_some (f u) (entries t) h in
    some_any (f w) (entries v) (r.0, r.1, (below_within p).at r.0 r.1 r.2, any-mono (spots_touch r.0) (entries u) (entries w) (below_within q) r.3)
