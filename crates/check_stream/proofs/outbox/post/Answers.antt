use Rattle.std.proofs.Common.{◌++◌}
use Rattle.rv_io.specs.Counts.{Rises}
use Rattle.check_stream.specs.Sends.{Breaks}
use Rattle.check_stream.proofs.Writing.{breaks_more, writes_both, breaks_behind, on_err}
use Rattle.check_stream.proofs.outbox.post.Goals as goal

pub returns-in_err-write_due-in-Err-clause-err : goal.returns-in_err-write_due-in-Err-clause-err
returns-in_err-write_due-in-Err-clause-err g c =
    let held = g.K.Sink.held in
    let faults = g.K.Sink.faults in
    let fell = Rises (faults c.args.sink.now) (faults c.write_due-in-Err.new.sink) in
    on_err c.from_residual.result (Breaks (held c.args.sink.now) (held c.write_due-in-Err.new.sink) (c.args.due.now.items ++ c.args.lines.now) fell)
    (breaks_more (held c.args.sink.now) (held c.write_due-in-Err.new.sink) c.extend_from_slice.new.self.items c.args.due.now.items c.args.lines.now fell c.in-Err.ensures.items c.in_err-write_due-in-Err.ensures.err)

pub returns-in-Ok-write_all-clause-ok : goal.returns-in-Ok-write_all-clause-ok
returns-in-Ok-write_all-clause-ok g c =
    let held = g.K.Sink.held in
    writes_both (held c.args.sink.now) (held c.write_due-in-Err.new.sink) (held c.write_all.new.sink) c.extend_from_slice.new.self.items c.args.due.now.items c.args.lines.now c.write_due-in-Err.new.due.items
    c.in-Err.ensures.items c.in_ok-write_due-in-Err.ensures.ok.0 c.in_ok-write_due-in-Err.ensures.ok.1 c.in-Ok-write_all.ensures.ok

pub returns-in-Err-write_all-clause-err : goal.returns-in-Err-write_all-clause-err
returns-in-Err-write_all-clause-err g c =
    let held = g.K.Sink.held in
    let faults = g.K.Sink.faults in
    breaks_behind (held c.args.sink.now) (held c.write_due-in-Err.new.sink) (held c.write_all.new.sink) (faults c.args.sink.now) (faults c.write_due-in-Err.new.sink) (faults c.write_all.new.sink)
    c.extend_from_slice.new.self.items c.args.due.now.items c.args.lines.now c.in-Err-write_all.field-0.sent
    c.in-Err.ensures.items c.in_ok-write_due-in-Err.ensures.ok.0 c.in-Err-write_all.ensures.sent c.in_ok-write_due-in-Err.ensures.never_falls c.in-Err-write_all.ensures.cause
