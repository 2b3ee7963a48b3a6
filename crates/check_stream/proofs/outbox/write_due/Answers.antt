use Rattle.rv_io.specs.Counts.{Rises}
use Rattle.check_stream.proofs.Writing.{broke_after}
use Rattle.check_stream.proofs.outbox.write_due.Goals as goal

pub returns-in-Err-clause-err : goal.returns-in-Err-clause-err
returns-in-Err-clause-err g c =
    let held = g.K.Sink.held in
    let faults = g.K.Sink.faults in
    broke_after (held c.args.sink.now) (held c.write_all.new.sink) c.deref.result.now c.args.due.now.items c.in-Err.field-0.sent (Rises (faults c.args.sink.now) (faults c.write_all.new.sink))
    c.deref.ensures.value c.in-Err.ensures.sent c.in-Err.ensures.cause
