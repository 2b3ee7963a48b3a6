use Rattle.std.proofs.Common.{◌≡◌, ◌⊎◌, ◌-◌, ◌<◌, ◌≤◌, vec_len}
use Rattle.rv_io.specs.Moves.{Moves}
use Rattle.stream.specs.Steps.{Lacks}
use Rattle.stream.proofs.reading.read_on.Given as goal

-- what is waited for lacks; nothing was read yet, or there is room
abbrev pub invariant-loop-bytes : goal.invariant-loop-bytes
invariant-loop-bytes g l = record {
  moved : Moves (g.S.Source.left l.fn.source) (g.S.Source.left l.source) l.fn.bytes.items l.bytes.items;
  within : vec_len l.bytes ≤ l.limit;
  lacks : Lacks l.wait l.bytes.items;
  room : ((l.bytes.items ≡ l.fn.bytes.items) × (l.source ≡ l.fn.source)) ⊎ (vec_len l.bytes < l.limit);
  never_falls : g.S.Source.faults l.fn.source ≤ g.S.Source.faults l.source;
}

abbrev pub decreases-loop-bytes : goal.decreases-loop-bytes
decreases-loop-bytes g l = l.limit - vec_len l.bytes
