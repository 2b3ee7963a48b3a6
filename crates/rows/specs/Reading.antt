-- Which node a row reads, and the last of some rows that reads a node.
use Rattle.std.specs.Prelude.{◌≡◌, ℕ, ◌<◌, ◌==◌, zero, suc, Bool, true, false, cond, List, Option, Some, None, slice_index, slice_index_or, slice_set, length}
use Rattle.rows.specs.declared.places.Place.{Place}
use Rattle.rows.specs.declared.places.Place.TheVariants.{Node, Result, Back, Put}
use Rattle.rows.specs.declared.inequalities.Right.{Right}
use Rattle.rows.specs.declared.inequalities.Right.TheVariants.{Known, Local, Outer, Carried, Through, Wanted, Cells}
use Rattle.rows.specs.declared.inequalities.Row.{Row}
use Rattle.rows.specs.declared.inequalities.Row.TheVariants.{Into, Puts}

-- the node that a right side reads
abbrev pub right_node : Right → Option ℕ
right_node (Known t) = None
right_node (Local moves n) = Some n
right_node (Outer moves g p) = None
right_node (Carried g i) = None
right_node (Through g i n) = Some n
right_node (Wanted g i n) = Some n
right_node (Cells moves s) = None

-- what it reads where the left place is a node too
abbrev pub read_into : Place → Option ℕ → Option ℕ
read_into (Node m) n = n
read_into Result n = None
read_into (Back i) n = None
read_into (Put c) n = None

-- the node that a row of a node reads
abbrev pub node_read : Row → Option ℕ
node_read (Into p right) = read_into p (right_node right)
node_read (Puts g i n) = None

-- the row at an index; past the end one that asks nothing of a node
abbrev pub row_at : List Row → ℕ → Row
row_at rows i = slice_index_or rows i (Puts 0 0 0)

abbrev pub is_node : Option ℕ → ℕ → Bool
is_node None n = false
is_node (Some m) n = m == n

-- the row at an index reads a node
abbrev pub reads_node : List Row → ℕ → ℕ → Bool
reads_node rows i n = is_node (node_read (row_at rows i)) n

-- one more than the index of the last of the first k rows that reads a node; 0 where none does
abbrev pub last_reader : List Row → ℕ → ℕ → ℕ
last_reader rows n zero = 0
last_reader rows n (suc k) = cond (reads_node rows k n) (suc k) (last_reader rows n k)

-- the last readers after one more, and which was the last one of its node before
abbrev pub noted : List ℕ → ℕ → Option ℕ → List ℕ
noted last reader None = last
noted last reader (Some n) = slice_set last n reader

abbrev pub earlier : List ℕ → Option ℕ → ℕ
earlier last None = 0
earlier last (Some n) = slice_index last n

-- `last` has for each node the last of the first k rows that reads it, and `before` for each of these rows the last one
-- before it that reads the same node
pub record IsIndex (rows : List Row) (k : ℕ) (last before : List ℕ) : Type 0 where
  pub counted : length before ≡ k
  pub heads : (n : ℕ) → n < length last → slice_index last n ≡ last_reader rows n k
  pub links : (i n : ℕ) → i < k → n < length last → reads_node rows i n ≡ true → slice_index before i ≡ last_reader rows n i
