use Rattle.std.proofs.Common.{◌+◌, length}
use Rattle.std.specs.Io.KnownBytes.{Consumes}
use Rattle.rv_io.specs.Counts.{Rises}
use Rattle.stream.specs.State.{taken}
use Rattle.check_stream.specs.Checks.{OneMore}
use Rattle.check_stream.proofs.AtHand.{took_at_hand}
use Rattle.check_stream.proofs.Turned.{turns_by, takes_by}
use Rattle.check_stream.proofs.turn.next_turn.Goals as goal

pub returns-in-Ok-clause-turns : goal.returns-in-Ok-clause-turns
returns-in-Ok-clause-turns g c =
    let faults = g.S.Source.faults in
    turns_by (Rises (faults c.args.source.now) (faults c.args.source.now)) c.args.session.now c.act.new.self c.args.stream.now c.fetch_at_hand.new.stream c.bytes.result.now c.in-Some.command c.in-Ok.turn
    c.bytes.ensures c.in-Some.ensures.1 c.in-Ok.ensures

pub returns-in-Ok-clause-takes : goal.returns-in-Ok-clause-takes
returns-in-Ok-clause-takes g c =
    let left = g.S.Source.left c.args.source.now in
    let old = c.args.stream.now in
    let new = c.fetch_at_hand.new.stream in
    takes_by (Consumes left left (taken old new)) (OneMore (new.place + length new.pending) left left (taken old new))
    c.args.session.now c.act.new.self c.bytes.result.now c.in-Some.command c.in-Ok.turn (took_at_hand left old new c.in-Some.ensures.0) c.in-Ok.ensures
