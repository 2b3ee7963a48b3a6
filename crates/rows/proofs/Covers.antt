-- Moves take a tree entry by entry: what is covered by some trees is so after moves.
use Rattle.std.proofs.Common.{ℕ, List, [], ◌∷◌, refl, sym, subst, inl, inr, ◌≤◌, IsTrue, arith}
use Rattle.std.specs.FinMap.{entries}
use Rattle.path_trees.specs.declared.steps.Step.{Step}
use Rattle.path_trees.specs.declared.spots.Spot.{Spot}
use Rattle.path_trees.specs.declared.moves.Move.{Move}
use Rattle.path_trees.specs.declared.moves.Move.TheVariants.{Bump}
use Rattle.path_trees.specs.Steps.{meets}
use Rattle.path_trees.specs.Moves.{move_spot, shift}
use Rattle.path_trees.specs.Trees.{TreeMap, Below, Stands, least_of}
use Rattle.path_trees.specs.Operations.{image, images, moved}
use Rattle.path_trees.proofs.Finite.{Listed, listed_left, listed_split, least_listed, listed_least, stands_listed, listed_stands}
use Rattle.path_trees.proofs.TreeLaws.{moved-least, moved-mono}
use Rattle.rows.specs.Families.{CellsBelow, IsJoinOfCells}
use Rattle.rows.specs.Rules.{moved_all}

pub moved_all-mono : (moves : List Move) (t u : TreeMap) → Below t u → Below (moved_all moves t) (moved_all moves u)
moved_all-mono [] t u h = h
moved_all-mono (m ∷ moves) t u h = moved_all-mono moves (moved m t) (moved m u) (moved-mono m t u h)

-- whatever stands in a tree stands in one of some trees
pub record Covered {A : Type 0} (T : A → TreeMap) (t : TreeMap) : Type 0 where
  pub at : (q : Spot) (d : ℕ) → Stands t q d → (x : A) × Stands (T x) q d

-- what an image listed comes from
record Comes (m : Move) (xs : List (Spot × ℕ)) (q : Spot) (d : ℕ) : Type 0 where
  spot : Spot
  distance : ℕ
  listed : Listed xs spot distance
  image_of : Listed (image (move_spot m spot) (shift m distance)) q d

comes_later : (m : Move) (x : Spot × ℕ) (xs : List (Spot × ℕ)) (q : Spot) (d : ℕ) → Comes m xs q d → Comes m (x ∷ xs) q d
comes_later m x xs q d c = record { spot = c.spot; distance = c.distance; listed = inr c.listed; image_of = c.image_of }

images_listed : (m : Move) (xs : List (Spot × ℕ)) (q : Spot) (d : ℕ) → Listed (images m xs) q d → Comes m xs q d
images_listed m [] q d l = absurd l
images_listed m (x ∷ xs) q d l = elim (listed_split (image (move_spot m x.0) (shift m x.1)) (images m xs) q d l) [
  | inl a ↦ record { spot = x.0; distance = x.1; listed = inl (refl, omega arith); image_of = a }
  | inr b ↦ comes_later m x xs q d (images_listed m xs q d b)
]

listed_nearer : (xs : List (Spot × ℕ)) (s : Spot) (d e : ℕ) → d ≤ e → Listed xs s d → Listed xs s e
listed_nearer [] s d e h l = absurd l
listed_nearer (x ∷ xs) s d e h (inl p) = inl (p.0, let w = p.1 in omega arith)
listed_nearer (x ∷ xs) s d e h (inr p) = inr (listed_nearer xs s d e h p)

-- a tree of one entry is below one in which the entry stands
one_below : (t : TreeMap) (s : Spot) (d : ℕ) → Stands t s d → Below (least_of ((s, d) ∷ [])) t
one_below t s d h = record {
  at = λ q e k. elim (least_listed ((s, d) ∷ []) q e k) [
    | inl p ↦ (let P : Spot → Type 0 = λ z. Stands t z e in subst P p.0 (listed_stands t s e (listed_nearer (entries t) s d e p.1 (stands_listed t s d h))))
    | inr p ↦ absurd p
  ];
}

-- what an entry is moved to stands in the moved tree
stands_moved : (m : Move) (t : TreeMap) (s : Spot) (d : ℕ) → Stands t s d → (q : Spot) (e : ℕ) → Listed (image (move_spot m s) (shift m d)) q e → Stands (moved m t) q e
stands_moved m t s d h q e l =
    let one : Stands (moved m (least_of ((s, d) ∷ []))) q e =
    let P : TreeMap → Type 0 = λ z. Stands z q e in
    subst P (sym (moved-least m ((s, d) ∷ []))) (listed_least (images m ((s, d) ∷ [])) q e (listed_left (image (move_spot m s) (shift m d)) [] q e l)) in
    (moved-mono m (least_of ((s, d) ∷ [])) t (one_below t s d h)).at q e one

covered_moved : {A : Type 0} (T : A → TreeMap) (t : TreeMap) (m : Move) → Covered T t → Covered (λ x. moved m (T x)) (moved m t)
covered_moved {A} T t m c = record {
  at = λ q d h.
      let k = images_listed m (entries t) q d (least_listed (images m (entries t)) q d h) in
      let w = c.at k.spot k.distance (listed_stands t k.spot k.distance k.listed) in
      (w.0, stands_moved m (T w.0) k.spot k.distance w.1 q d k.image_of);
}

pub covered_moved_all : {A : Type 0} (T : A → TreeMap) (t : TreeMap) (moves : List Move) → Covered T t → Covered (λ x. moved_all moves (T x)) (moved_all moves t)
covered_moved_all T t [] c = c
covered_moved_all {A} T t (m ∷ moves) c = covered_moved_all (λ x. moved m (T x)) (moved m t) moves (covered_moved T t m c)

pub covered_below : {A : Type 0} (T : A → TreeMap) (t u : TreeMap) → Covered T t → ((x : A) → Below (T x) u) → Below t u
covered_below {A} T t u c h = record { at = λ q d s. let w = c.at q d s in (h w.0).at q d w.1 }

-- a cell of a callable that meets a step
pub record Meeting (s : Step) : Type 0 where
  pub callable : ℕ
  pub cell : Step
  pub meets_it : IsTrue (meets cell s)

-- what is read of the cells that meet a step is below a tree where what is read of greater ones is
pub cells_reading : (puts others : ℕ → Step → TreeMap) (moves : List Move) (s : Step) (u : TreeMap) → CellsBelow puts others s
    → ((h : ℕ) (c : Step) → IsTrue (meets c s) → Below (moved_all moves (moved Bump (others h c))) u)
    → (h : ℕ) (c : Step) → IsTrue (meets c s) → Below (moved_all moves (moved Bump (puts h c))) u
cells_reading puts others moves s u less w h c m =
    let T : Meeting s → TreeMap = λ x. moved Bump (others x.callable x.cell) in
    let covered : Covered T (moved Bump (puts h c)) = record {
      at = λ q d k.
          let o = less q d (record { callable = h; cell = c; meets_it = m; stands = k }) in
          let x : Meeting s = record { callable = o.callable; cell = o.cell; meets_it = o.meets_it } in (x, o.stands);
    } in
    covered_below (λ (x : Meeting s). moved_all moves (T x)) (moved_all moves (moved Bump (puts h c))) u (covered_moved_all T (moved Bump (puts h c)) moves covered) (λ x. w x.callable x.cell x.meets_it)

-- cells are greater where each put is
pub cells_of : (puts others : ℕ → Step → TreeMap) (s : Step) → ((h : ℕ) (c : Step) → IsTrue (meets c s) → Below (puts h c) (others h c)) → CellsBelow puts others s
cells_of puts others s b q d k = record {
  callable = k.callable;
  cell = k.cell;
  meets_it = k.meets_it;
  stands = (moved-mono Bump (puts k.callable k.cell) (others k.callable k.cell) (b k.callable k.cell k.meets_it)).at q d k.stands;
}

-- and where they have one join
pub cells_of_joins : (puts others : ℕ → Step → TreeMap) (s : Step) (t : TreeMap) → IsJoinOfCells puts s t → IsJoinOfCells others s t → CellsBelow puts others s
cells_of_joins puts others s t i j q d k = j.made q d ((i.above k.callable k.cell k.meets_it).at q d k.stands)
