-- What holds while the rows of nodes are solved.
use Rattle.std.specs.Prelude.{◌≡◌, ℕ, ◌+◌, ◌*◌, ◌<◌, ◌^◌, List, [], ◌∷◌, length, sum_by, Contains, ◌⊎◌}
use Rattle.path_trees.specs.Trees.{TreeMap, Below}
use Rattle.path_trees.specs.Room.{room}
use Rattle.rows.specs.declared.places.Place.{Place}
use Rattle.rows.specs.declared.places.Place.TheVariants.{Node, Result, Back, Put}
use Rattle.rows.specs.declared.inequalities.Right.{Right}
use Rattle.rows.specs.declared.inequalities.Row.{Row}
use Rattle.rows.specs.declared.inequalities.Row.TheVariants.{Into, Puts}
use Rattle.rows.specs.Families.{Family, InputTrees, tree_at}
use Rattle.rows.specs.Inequalities.{RightBelow, Solves}
use Rattle.rows.specs.Reading.{row_at}

-- a left place that is a node has a tree above the right side
abbrev pub IntoHolds : InputTrees → (ℕ → TreeMap) → Right → Place → Type 0
IntoHolds I N r (Node n) = RightBelow I N r (N n)
IntoHolds I N r Result = Unit {0}
IntoHolds I N r (Back i) = Unit {0}
IntoHolds I N r (Put c) = Unit {0}

-- a row holds as far as it asks something of a node
abbrev pub NodeHolds : InputTrees → (ℕ → TreeMap) → Row → Type 0
NodeHolds I N (Into p r) = IntoHolds I N r p
NodeHolds I N (Puts g i n) = Unit {0}

-- a left place that is a node is one of the first so many
abbrev pub IsLeftBelow : ℕ → Place → Type 0
IsLeftBelow count (Node n) = n < count
IsLeftBelow count Result = Unit {0}
IsLeftBelow count (Back i) = Unit {0}
IsLeftBelow count (Put c) = Unit {0}

abbrev pub IsRowBelow : ℕ → Row → Type 0
IsRowBelow count (Into p r) = IsLeftBelow count p
IsRowBelow count (Puts g i n) = Unit {0}

-- so are those of all rows
abbrev pub AreRowsBelow : ℕ → List Row → Type 0
AreRowsBelow count [] = Unit {0}
AreRowsBelow count (r ∷ rows) = IsRowBelow count r × AreRowsBelow count rows

-- the nodes are below each solution, and each row that isn't in the list holds
pub record Working (I : InputTrees) (rows : List Row) (N : List TreeMap) (ids : List ℕ) : Type 0 where
  pub under : (G : Family) → Solves I G rows → (n : ℕ) → Below (tree_at N n) (G (Node n))
  pub done : (i : ℕ) → i < length rows → Contains ids i ⊎ NodeHolds I (tree_at N) (row_at rows i)

-- how much work there is at most: a tree that grows costs a list of less than 2 ^ 32 rows
unfoldable pub work : List TreeMap → List ℕ → ℕ
work N ids = sum_by room N * 2 ^ 32 + length ids

-- what a row of a node does that was taken from the list
pub record Raised (I : InputTrees) (rows : List Row) (n : ℕ) (r : Right) (N M : List TreeMap) (ids left : List ℕ) : Type 0 where
  pub counted : length M ≡ length N
  pub keeps : (row : ℕ) → row < length rows → row_at rows row ≡ Into (Node n) r → Working I rows N (row ∷ ids) → Working I rows M left
  pub falls : (row : ℕ) → work M left < work N (row ∷ ids)

-- what any row does
pub record Turned (I : InputTrees) (rows : List Row) (row : ℕ) (N M : List TreeMap) (ids left : List ℕ) : Type 0 where
  pub counted : length M ≡ length N
  pub keeps : Working I rows N (row ∷ ids) → Working I rows M left
  pub falls : work M left < work N (row ∷ ids)
