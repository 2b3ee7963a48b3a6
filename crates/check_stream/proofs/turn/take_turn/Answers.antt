use Rattle.std.proofs.Common.{◌+◌, length}
use Rattle.std.proofs.lemmas.Result.{IfOk-weaker}
use Rattle.rv_io.specs.Counts.{Rises}
use Rattle.std.specs.Io.KnownBytes.{Consumes}
use Rattle.stream.specs.State.{taken}
use Rattle.check_stream.specs.Checks.{OneMore}
use Rattle.check_stream.proofs.Turned.{turns_by, takes_by, stops_turn}
use Rattle.check_stream.proofs.turn.take_turn.Goals as goal

pub returns-in-Ok-clause-turns : goal.returns-in-Ok-clause-turns
returns-in-Ok-clause-turns g c =
    let faults = g.S.Source.faults in
    IfOk-weaker c.act.result _ _ (λ turn answers. turns_by (Rises (faults c.args.source.now) (faults c.fetch.new.source)) c.args.session.now c.act.new.self c.args.stream.now c.fetch.new.stream c.bytes.result.now c.in-Ok.command turn
    c.bytes.ensures c.in-Ok.ensures.found.0 answers) c.act.ensures

pub returns-in-Ok-clause-takes : goal.returns-in-Ok-clause-takes
returns-in-Ok-clause-takes g c =
    let left = g.S.Source.left in
    IfOk-weaker c.act.result _ _ (λ turn answers. takes_by (Consumes (left c.args.source.now) (left c.fetch.new.source) (taken c.args.stream.now c.fetch.new.stream))
    (OneMore (c.fetch.new.stream.place + length c.fetch.new.stream.pending) (left c.args.source.now) (left c.fetch.new.source) (taken c.args.stream.now c.fetch.new.stream))
    c.args.session.now c.act.new.self c.bytes.result.now c.in-Ok.command turn (c.in-Ok.ensures.exact (λ e. cc)) answers) c.act.ensures

pub returns-in-Err-clause-turns : goal.returns-in-Err-clause-turns
returns-in-Err-clause-turns g c =
    let faults = g.S.Source.faults in
    IfOk-weaker c.tell.result _ _ (λ turn told. stops_turn (Rises (faults c.args.source.now) (faults c.fetch.new.source)) c.args.session.now c.args.stream.now c.fetch.new.stream c.in-Err.fault turn
    c.fetch.ensures.steps.place c.in-Err.ensures.empty c.in-Err.ensures.stops told) c.tell.ensures
