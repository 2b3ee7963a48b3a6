use Rattle.std.proofs.Common.{◌-◌, ◌≤◌, ◌^◌}
use Rattle.check_stream.proofs.Reached.{Reached}
use Rattle.check_stream.proofs.checking.take_turns.Given as goal

abbrev pub invariant-loop-lines : goal.invariant-loop-lines
invariant-loop-lines g l = record {
  reached : Reached (g.S.Source.left l.fn.source) (g.S.Source.left l.source) (g.K.Sink.held l.fn.sink) (g.K.Sink.held l.sink) l.due.items l.stream l.session;
  source_never_falls : g.S.Source.faults l.fn.source ≤ g.S.Source.faults l.source;
  sink_never_falls : g.K.Sink.faults l.fn.sink ≤ g.K.Sink.faults l.sink;
}

abbrev pub decreases-loop-lines : goal.decreases-loop-lines
decreases-loop-lines g l = 2 ^ 29 - l.stream.place
