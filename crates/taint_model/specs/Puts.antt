-- What a callable puts into cells, as a finite map from a cell to a tree. A cell is a step, and stands for that part of any object.
use Rattle.std.specs.Prelude.{◌≡◌, ℕ, ◌+◌, ◌==◌, List, [], ◌∷◌, ◌++◌, map, filter, cond, Option, Some, None, IsTrue}
use Rattle.std.specs.FinMap.{FinMap, empty, entries, get, insert, len, from_entries, from_sorted, is_sorted}
use Rattle.path_trees.specs.declared.steps.Step.{Step}
use Rattle.path_trees.specs.declared.moves.Move.TheVariants.{Bump}
use Rattle.path_trees.specs.Steps.{IsHeldStep, meets, step_order}
use Rattle.path_trees.specs.Trees.{Below, IsHeldTree, TreeMap}
use Rattle.path_trees.specs.Operations.{joined, moved}
use Rattle.path_trees.specs.Room.{all_steps, room}

-- the trees of some cells
abbrev pub PutMap : Type 0
PutMap = FinMap step_order TreeMap

-- a tree that may be there, or else the empty one
abbrev pub tree_of : Option TreeMap → TreeMap
tree_of None = empty
tree_of (Some t) = t

-- the tree of a cell
abbrev pub tree_at : PutMap → Step → TreeMap
tree_at p c = tree_of (get p c)

-- the tree of each cell is below its tree in the other
pub record PutsBelow (p q : PutMap) : Type 0 where
  pub at : (c : Step) → Below (tree_at p c) (tree_at q c)

-- a tree joined to that of a cell. A tree of no entries adds no cell
abbrev pub with_put : PutMap → Step → TreeMap → PutMap
with_put p c t = cond (len t == 0) p (insert p c (joined (tree_at p c) t))

-- each cell of either, with the join of its two trees
abbrev pub joined_puts : PutMap → PutMap → PutMap
joined_puts p q = from_entries (map (λ (e : Step × TreeMap). (e.0, joined (tree_at p e.0) (tree_at q e.0))) (entries p ++ entries q))

-- the join of some trees
abbrev pub joined_all : List TreeMap → TreeMap
joined_all [] = empty
joined_all (t ∷ ts) = joined t (joined_all ts)

-- what is found at a step, if it was put into a cell: the trees of all cells that meet the step, each distance one more
abbrev pub cells_at : PutMap → Step → TreeMap
cells_at p s = joined_all (map (λ (e : Step × TreeMap). moved Bump e.1) (filter (λ (e : Step × TreeMap). meets e.0 s) (entries p)))

-- no cell has the empty tree
pub record HasNoEmptyTree (p : PutMap) : Type 0 where
  pub at : (c : Step) (t : TreeMap) → get p c ≡ Some t → ¬ (t ≡ empty)

-- puts that a program can hold
pub record ArePutsHeld (p : PutMap) : Type 0 where
  pub cells : (c : Step) (t : TreeMap) → get p c ≡ Some t → IsHeldStep c
  pub trees : (c : Step) (t : TreeMap) → get p c ≡ Some t → IsHeldTree t
  pub some : HasNoEmptyTree p

-- what the cells of puts are: in strict order
pub record IsPuts (es : List (Step × TreeMap)) : Type 0 where
  pub rising : IsTrue (is_sorted step_order es)
  pub held : ArePutsHeld (from_sorted es)

-- the room above the trees of some cells
unfoldable pub room_at : PutMap → List Step → ℕ
room_at p [] = 0
room_at p (c ∷ cs) = room (tree_at p c) + room_at p cs

-- the room above the trees of all cells that a program can hold
unfoldable pub put_room : PutMap → ℕ
put_room p = room_at p all_steps
