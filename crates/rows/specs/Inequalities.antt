-- Rows, which are inequalities over the trees of one body; what it is to solve them, and the least solution.
use Rattle.std.specs.Prelude.{ℕ, List, [], ◌∷◌, IsTrue}
use Rattle.path_trees.specs.declared.steps.Step.{Step}
use Rattle.path_trees.specs.declared.moves.Move.TheVariants.{Bump}
use Rattle.path_trees.specs.Steps.{meets}
use Rattle.path_trees.specs.Trees.{TreeMap, Below}
use Rattle.path_trees.specs.Operations.{moved}
use Rattle.rows.specs.declared.places.Place.{Place}
use Rattle.rows.specs.declared.places.Place.TheVariants.{Node, Back, Put}
use Rattle.rows.specs.declared.inequalities.Right.{Right}
use Rattle.rows.specs.declared.inequalities.Right.TheVariants.{Known, Local, Outer, Carried, Through, Wanted, Cells}
use Rattle.rows.specs.declared.inequalities.Row.{Row}
use Rattle.rows.specs.declared.inequalities.Row.TheVariants.{Into, Puts}
use Rattle.rows.specs.Families.{Family, InputTrees}
use Rattle.rows.specs.Rules.{moved_all, carried, through, wanted, put_through}

-- a right side is below a tree, where the body's nodes have these trees. Of cells: each put that meets the step is
abbrev pub RightBelow : InputTrees → (ℕ → TreeMap) → Right → TreeMap → Type 0
RightBelow I N (Known t) u = Below t u
RightBelow I N (Local moves n) u = Below (moved_all moves (N n)) u
RightBelow I N (Outer moves g p) u = Below (moved_all moves (I.of g p)) u
RightBelow I N (Carried g i) u = Below (carried (I.of g (Back i))) u
RightBelow I N (Through g i n) u = Below (through (N n) (I.of g (Back i))) u
RightBelow I N (Wanted g i n) u = Below (wanted (N n) (I.of g (Back i))) u
RightBelow I N (Cells moves s) u = (h : ℕ) (c : Step) → IsTrue (meets c s) → Below (moved_all moves (moved Bump (I.puts h c))) u

-- a row holds: its right side is below the tree of its left place. A row of puts has each cell as a left place
abbrev pub Holds : InputTrees → Family → Row → Type 0
Holds I F (Into p right) = RightBelow I (λ n. F (Node n)) right (F p)
Holds I F (Puts g i n) = (c : Step) → Below (put_through c (F (Node n)) (I.of g (Back i))) (F (Put c))

-- each row holds
abbrev pub Solves : InputTrees → Family → List Row → Type 0
Solves I F [] = Unit {0}
Solves I F (r ∷ rows) = Holds I F r × Solves I F rows

-- the solution that is below every solution
pub record IsLeast (I : InputTrees) (rows : List Row) (F : Family) : Type 0 where
  pub solves : Solves I F rows
  pub least : (G : Family) → Solves I G rows → (p : Place) → Below (F p) (G p)

-- a tree is the least of those that a right side is below
pub record IsRight (I : InputTrees) (N : ℕ → TreeMap) (right : Right) (t : TreeMap) : Type 0 where
  pub above : RightBelow I N right t
  pub least : (u : TreeMap) → RightBelow I N right u → Below t u
