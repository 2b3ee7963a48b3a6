use Rattle.std.proofs.Common.{◌≡◌, ◌<◌, ℕ, Contains}
use Rattle.ready_list.specs.Listed.{IsWellFormed}
use Rattle.rows.proofs.settling.all_rows.Given as goal

abbrev pub invariant-loop-row : goal.invariant-loop-row
invariant-loop-row l = record {
  pushed : (i : ℕ) → i < l.row → Contains l.list.ids i;
  room : l.list.room ≡ l.count;
  well_formed : IsWellFormed l.list;
}
