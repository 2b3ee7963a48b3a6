use Rattle.std.proofs.Common.{◌≡◌, ℕ, take, vec_len}
use Rattle.std.specs.FinMap.{empty}
use Rattle.rows.specs.Families.{tree_at}
use Rattle.rows.specs.Working.{AreRowsBelow}
use Rattle.rows.proofs.solving.empty_nodes.Given as goal

abbrev pub invariant-loop-row : goal.invariant-loop-row
invariant-loop-row l = record {
  all : AreRowsBelow (vec_len l.nodes) (take l.row-index l.rows);
  empty_all : (n : ℕ) → tree_at l.nodes.items n ≡ empty;
}
