use Rattle.std.proofs.Common.{◌≡◌, ◌+◌, ◌-◌, ◌^◌, ◌≤◌, drop, vec_len}
use Rattle.stream.proofs.Reached.{Reached, left_of}
use Rattle.stream.proofs.reading.read_next.Given as goal

abbrev pub invariant-loop-next : goal.invariant-loop-next
invariant-loop-next g l = record {
  start : l.start ≤ vec_len l.bytes;
  limit : l.place + (vec_len l.bytes - l.start) ≤ 2 ^ 29;
  reached : Reached (l.source ≡ l.fn.source) (g.S.Source.left l.fn.source) (g.S.Source.left l.source) (g.S.Source.faults l.fn.source) (g.S.Source.faults l.source) (drop l.fn.start l.fn.bytes.items) (drop l.start l.bytes.items) l.fn.over l.over l.failed;
}

-- what may still be read, and that the end or a fault may still come
abbrev pub decreases-loop-next : goal.decreases-loop-next
decreases-loop-next g l = 2 ^ 29 - l.place - (vec_len l.bytes - l.start) + left_of l.over + left_of l.failed
