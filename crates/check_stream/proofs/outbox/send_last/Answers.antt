use Rattle.std.proofs.Common.{◌++◌}
use Rattle.rv_io.specs.Counts.{Rises}
use Rattle.rv_io.proofs.Steps.{Rises-later}
use Rattle.check_stream.proofs.Writing.{sending_after}
use Rattle.check_stream.proofs.outbox.send_last.Goals as goal

pub returns-in-Ok-clause-sent : goal.returns-in-Ok-clause-sent
returns-in-Ok-clause-sent g c =
    let held = g.K.Sink.held in
    let faults = g.K.Sink.faults in
    sending_after c.args.status c.send.result (held c.args.sink.now) (held c.post.new.sink) (held c.send.new.sink) (c.args.due.now.items ++ c.args.lines.now) c.post.new.due.items c.deref.result.now
    (Rises (faults c.post.new.sink) (faults c.send.new.sink)) (Rises (faults c.args.sink.now) (faults c.send.new.sink)) c.in-Ok.ensures.ok c.deref.ensures.value
    (λ rose. Rises-later (faults c.args.sink.now) (faults c.post.new.sink) (faults c.send.new.sink) c.in-Ok.ensures.never_falls rose) c.send.ensures.sent
