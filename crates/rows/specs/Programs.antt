-- The rows of all callables of a program, where each reads the trees of the others; their solutions, and the least one.
use Rattle.std.specs.Prelude.{◌≡◌, ℕ, List, [], ◌∷◌, Option, Some, None, slice_get, IsTrue, ◌⊎◌}
use Rattle.std.specs.FinMap.{empty}
use Rattle.path_trees.specs.declared.steps.Step.{Step}
use Rattle.path_trees.specs.Steps.{meets}
use Rattle.path_trees.specs.Trees.{TreeMap, Below}
use Rattle.rows.specs.declared.places.Place.{Place}
use Rattle.rows.specs.declared.places.Place.TheVariants.{Node, Result, Back, Put}
use Rattle.rows.specs.declared.inequalities.Right.{Right}
use Rattle.rows.specs.declared.inequalities.Right.TheVariants.{Known, Local, Outer, Carried, Through, Wanted, Cells}
use Rattle.rows.specs.declared.inequalities.Row.{Row}
use Rattle.rows.specs.declared.inequalities.Row.TheVariants.{Into, Puts}
use Rattle.rows.specs.Families.{Families, InputTrees, CellsBelow, IsJoinOfCells}
use Rattle.rows.specs.Inequalities.{Solves}
use Rattle.rows.specs.Reading.{right_node, is_node}

-- a body: its rows, and the numbers of its callees
pub record Body : Type 0 where
  pub rows : List Row
  pub callees : List ℕ

-- the bodies of all callables; one that isn't there has no rows
abbrev pub Bodies : Type 0
Bodies = ℕ → Body

-- the tree of a callee's place; where there is no callee the empty one
abbrev pub callee_tree : Families → Option ℕ → Place → TreeMap
callee_tree M None p = empty
callee_tree M (Some f) p = M f p

-- what a body reads of the trees of all callables
abbrev pub inputs_of : Body → Families → InputTrees
inputs_of b M = record { of = λ k p. callee_tree M (slice_get b.callees k) p; puts = λ h c. M h (Put c) }

-- all rows of all callables hold, over one family of trees
abbrev pub SolvesAll : Bodies → Families → Type 0
SolvesAll bodies M = (g : ℕ) → Solves (inputs_of (bodies g) M) (M g) (bodies g).rows

-- the solution that is below every solution, tree by tree
pub record IsLeastOfAll (bodies : Bodies) (M : Families) : Type 0 where
  pub solves : SolvesAll bodies M
  pub least : (G : Families) → SolvesAll bodies G → (g : ℕ) (p : Place) → Below (M g p) (G g p)

-- the places of callees that a right side reads, by the positions of the callees
abbrev pub RightReads : Right → ℕ → Place → Type 0
RightReads (Known t) k p = ⊥
RightReads (Local moves n) k p = ⊥
RightReads (Outer moves g q) k p = (k ≡ g) × (p ≡ q)
RightReads (Carried g i) k p = (k ≡ g) × (p ≡ Back i)
RightReads (Through g i n) k p = (k ≡ g) × (p ≡ Back i)
RightReads (Wanted g i n) k p = (k ≡ g) × (p ≡ Back i)
RightReads (Cells moves s) k p = ⊥

-- and the cells of any callable that it reads
abbrev pub RightReadsCell : Right → Step → Type 0
RightReadsCell (Known t) c = ⊥
RightReadsCell (Local moves n) c = ⊥
RightReadsCell (Outer moves g q) c = ⊥
RightReadsCell (Carried g i) c = ⊥
RightReadsCell (Through g i n) c = ⊥
RightReadsCell (Wanted g i n) c = ⊥
RightReadsCell (Cells moves s) c = IsTrue (meets c s)

abbrev pub RowReads : Row → ℕ → Place → Type 0
RowReads (Into q right) k p = RightReads right k p
RowReads (Puts g i n) k p = (k ≡ g) × (p ≡ Back i)

abbrev pub RowReadsCell : Row → Step → Type 0
RowReadsCell (Into q right) c = RightReadsCell right c
RowReadsCell (Puts g i n) c = ⊥

-- what rows read of callees, and of cells
abbrev pub RowsRead : List Row → ℕ → Place → Type 0
RowsRead [] k p = ⊥
RowsRead (r ∷ rows) k p = RowReads r k p ⊎ RowsRead rows k p

abbrev pub RowsReadCell : List Row → Step → Type 0
RowsReadCell [] c = ⊥
RowsReadCell (r ∷ rows) c = RowReadsCell r c ⊎ RowsReadCell rows c

-- the steps by which a right side reads cells
abbrev pub RightReadsStep : Right → Step → Type 0
RightReadsStep (Known t) s = ⊥
RightReadsStep (Local moves n) s = ⊥
RightReadsStep (Outer moves g q) s = ⊥
RightReadsStep (Carried g i) s = ⊥
RightReadsStep (Through g i n) s = ⊥
RightReadsStep (Wanted g i n) s = ⊥
RightReadsStep (Cells moves t) s = s ≡ t

abbrev pub RowReadsStep : Row → Step → Type 0
RowReadsStep (Into q right) s = RightReadsStep right s
RowReadsStep (Puts g i n) s = ⊥

abbrev pub RowsReadStep : List Row → Step → Type 0
RowsReadStep [] s = ⊥
RowsReadStep (r ∷ rows) s = RowReadsStep r s ⊎ RowsReadStep rows s

-- the nodes that rows read
abbrev pub RowReadsNode : Row → ℕ → Type 0
RowReadsNode (Into q right) n = IsTrue (is_node (right_node right) n)
RowReadsNode (Puts g i m) n = n ≡ m

abbrev pub RowsReadNode : List Row → ℕ → Type 0
RowsReadNode [] n = ⊥
RowsReadNode (r ∷ rows) n = RowReadsNode r n ⊎ RowsReadNode rows n

-- what other callables give is less, or the same, where rows read it: the places of callees, and what stands in the cells
-- that meet a step, whoever put it there
pub record LessWhereRead (rows : List Row) (I J : InputTrees) : Type 0 where
  pub of : (k : ℕ) (p : Place) → RowsRead rows k p → Below (I.of k p) (J.of k p)
  pub puts : (s : Step) → RowsReadStep rows s → CellsBelow I.puts J.puts s

-- inputs that give the same where rows read them: equal trees of callees, and one join of what is put into the cells that
-- meet a step
pub record SameWhereRead (rows : List Row) (I J : InputTrees) : Type 0 where
  pub of : (k : ℕ) (p : Place) → RowsRead rows k p → I.of k p ≡ J.of k p
  pub puts : (s : Step) → RowsReadStep rows s → (t : TreeMap) × IsJoinOfCells I.puts s t × IsJoinOfCells J.puts s t

-- a body reads a callable's place: as that of a callee
pub record ReadsCallee (b : Body) (f : ℕ) (p : Place) : Type 0 where
  pub position : ℕ
  pub callee : slice_get b.callees position ≡ Some f
  pub reads : RowsRead b.rows position p

-- or as a cell
abbrev pub ReadsAsCell : Body → Place → Type 0
ReadsAsCell b (Node n) = ⊥
ReadsAsCell b Result = ⊥
ReadsAsCell b (Back i) = ⊥
ReadsAsCell b (Put c) = RowsReadCell b.rows c

-- a body reads a place of a callable
abbrev pub Reads : Body → ℕ → Place → Type 0
Reads b f p = ReadsCallee b f p ⊎ ReadsAsCell b p
