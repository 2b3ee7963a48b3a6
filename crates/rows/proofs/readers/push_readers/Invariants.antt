use Rattle.std.proofs.Common.{◌≡◌}
use Rattle.ready_list.specs.Listed.{IsWellFormed}
use Rattle.rows.proofs.Indexes.{Walk}
use Rattle.rows.proofs.readers.push_readers.Given as goal

abbrev pub invariant-loop-at : goal.invariant-loop-at
invariant-loop-at l = record {
  walk : Walk l.readers.rows.now l.node l.at l.fn.list.ids l.list.ids;
  room : l.list.room ≡ l.fn.list.room;
  well_formed : IsWellFormed l.list;
}

abbrev pub decreases-loop-at : goal.decreases-loop-at
decreases-loop-at l = l.at
