use Rattle.std.proofs.Common.{length, ◌-◌, ◌≤◌, take}
use Rattle.std.specs.Io.KnownBytes.{Appends}
use Rattle.rv_io.proofs.transfer.write_all.Given as goal

-- the first `sent` bytes were appended, and no others
abbrev pub invariant-loop-sent : goal.invariant-loop-sent
invariant-loop-sent g l =
    let held = g.K.Sink.held in
    let faults = g.K.Sink.faults in
    record {
      within : l.sent ≤ length l.bytes;
      appended : Appends (held l.fn.sink) (held l.sink) (take l.sent l.bytes);
      never_falls : faults l.fn.sink ≤ faults l.sink;
    }

abbrev pub decreases-loop-sent : goal.decreases-loop-sent
decreases-loop-sent g l = length l.bytes - l.sent
