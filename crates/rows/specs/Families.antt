-- Trees by place: those of one callable, of all callables, and what a body reads of the others.
use Rattle.std.specs.Prelude.{ℕ, List, slice_index_or, IsTrue}
use Rattle.std.specs.FinMap.{empty}
use Rattle.path_trees.specs.declared.steps.Step.{Step}
use Rattle.path_trees.specs.declared.spots.Spot.{Spot}
use Rattle.path_trees.specs.declared.moves.Move.TheVariants.{Bump}
use Rattle.path_trees.specs.Steps.{meets}
use Rattle.path_trees.specs.Trees.{TreeMap, Below, Stands}
use Rattle.path_trees.specs.Operations.{moved}
use Rattle.rows.specs.declared.places.Place.{Place}

-- the tree of each place of one callable
abbrev pub Family : Type 0
Family = Place → TreeMap

-- and of all callables, by their numbers
abbrev pub Families : Type 0
Families = ℕ → Family

-- what a body reads of other callables: the trees of its callees, by their positions in its list of callees, and what each
-- callable puts into each cell, by the number of the callable
pub record InputTrees : Type 0 where
  pub of : ℕ → Family
  pub puts : ℕ → Step → TreeMap

-- the tree at an index; past the end the empty one
abbrev pub tree_at : List TreeMap → ℕ → TreeMap
tree_at trees n = slice_index_or trees n empty

-- whatever some callable puts into some cell that meets a step, one farther away
pub record StandsInCell (puts : ℕ → Step → TreeMap) (s : Step) (q : Spot) (d : ℕ) : Type 0 where
  pub callable : ℕ
  pub cell : Step
  pub meets_it : IsTrue (meets cell s)
  pub stands : Stands (moved Bump (puts callable cell)) q d

-- whatever stands in the cells that meet a step stands there in others too, whoever put it there
abbrev pub CellsBelow : (ℕ → Step → TreeMap) → (ℕ → Step → TreeMap) → Step → Type 0
CellsBelow puts others s = (q : Spot) (d : ℕ) → StandsInCell puts s q d → StandsInCell others s q d

-- what other callables give is less, or the same
pub record Less (I J : InputTrees) : Type 0 where
  pub of : (g : ℕ) (p : Place) → Below (I.of g p) (J.of g p)
  pub puts : (s : Step) → CellsBelow I.puts J.puts s

-- a tree is the join of what all callables put into the cells that meet a step, each one farther away
pub record IsJoinOfCells (puts : ℕ → Step → TreeMap) (s : Step) (t : TreeMap) : Type 0 where
  pub above : (h : ℕ) (c : Step) → IsTrue (meets c s) → Below (moved Bump (puts h c)) t
  pub made : (q : Spot) (d : ℕ) → Stands t q d → StandsInCell puts s q d
