-- A solution as the trees of all places.
use Rattle.std.specs.Prelude.{◌≡◌, ℕ, List, [], ◌∷◌, cond}
use Rattle.std.specs.FinMap.{empty}
use Rattle.path_trees.specs.declared.steps.Step.{Step}
use Rattle.path_trees.specs.Steps.{step_equal}
use Rattle.path_trees.specs.Trees.{TreeMap, Below}
use Rattle.path_trees.specs.Operations.{joined}
use Rattle.rows.specs.declared.places.Place.{Place}
use Rattle.rows.specs.declared.places.Place.TheVariants.{Node, Result, Back, Put}
use Rattle.rows.specs.declared.inequalities.Row.{Row}
use Rattle.rows.specs.declared.solutions.PutTree.{PutTree}
use Rattle.rows.specs.declared.solutions.Solution.{Solution}
use Rattle.rows.specs.Families.{Family, InputTrees, tree_at}
use Rattle.rows.specs.Inequalities.{Holds}
use Rattle.rows.specs.Working.{NodeHolds}

-- the trees of one put into a cell
abbrev pub one_put : PutTree → Step → TreeMap
one_put p c = cond (step_equal p.cell c) p.tree empty

-- the tree of a cell is the join of what is put into it
abbrev pub put_at : List PutTree → Step → TreeMap
put_at [] c = empty
put_at (p ∷ puts) c = joined (one_put p c) (put_at puts c)

abbrev pub family_of : List TreeMap → TreeMap → List TreeMap → List PutTree → Family
family_of nodes result backs puts (Node n) = tree_at nodes n
family_of nodes result backs puts Result = result
family_of nodes result backs puts (Back i) = tree_at backs i
family_of nodes result backs puts (Put c) = put_at puts c

-- the tree of each place; where nothing is told of a place the empty one
abbrev pub family : Solution → Family
family s = family_of s.nodes.items s.result s.backs.items s.puts.items

-- what a row gives to the places that are no nodes
pub record Given (I : InputTrees) (row : Row) (F H : Family) : Type 0 where
  pub nodes : (n : ℕ) → H (Node n) ≡ F (Node n)
  pub grows : (p : Place) → Below (F p) (H p)
  pub under : (G : Family) → Holds I G row → ((p : Place) → Below (F p) (G p)) → (p : Place) → Below (H p) (G p)
  pub holds : NodeHolds I (λ n. F (Node n)) row → Holds I H row
