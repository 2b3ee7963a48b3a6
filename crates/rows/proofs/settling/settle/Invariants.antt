use Rattle.std.proofs.Common.{◌≡◌, vec_len, length}
use Rattle.ready_list.specs.Listed.{IsWellFormed}
use Rattle.rows.specs.Working.{Working, work}
use Rattle.rows.proofs.settling.settle.Given as goal

abbrev pub invariant-loop-row : goal.invariant-loop-row
invariant-loop-row g l = record {
  counted : vec_len l.nodes ≡ vec_len l.readers.last;
  room : l.list.room ≡ length l.readers.rows.now;
  well_formed : IsWellFormed l.list;
  working : Working (g.I.Inputs.trees l.inputs) l.readers.rows.now l.nodes.items l.list.ids;
}

abbrev pub decreases-loop-row : goal.decreases-loop-row
decreases-loop-row g l = work l.nodes.items l.list.ids
