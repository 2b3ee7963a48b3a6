use Rattle.std.proofs.Common.{◌-◌, ◌≡◌, length, take, drop, arith, ap, subst, length-drop}
use Rattle.std.proofs.lemmas.List.{take_rest}
use Rattle.std.specs.Io.KnownBytes.{Appends}
use Rattle.rv_io.proofs.Steps.{Appends-take_more}
use Rattle.rv_io.proofs.transfer.write_all.Goals as goal

pub loop-sent-preserved : goal.loop-sent-preserved
loop-sent-preserved g c =
    let bytes = c.args.bytes.now in
    let sent = c.loop-sent.sent in
    let count = c.in-Ok.count in
    let rest : take (length bytes - sent) (drop sent bytes) ≡ drop sent bytes = take_rest bytes sent in
    let held = g.K.Sink.held in
    record {
      within = omega (arith, c.in-Ok.ensures.within, ap length rest, length-drop sent bytes);
      appended = Appends-take_more _ (held c.loop-sent.sink) _ bytes sent count c.loop-sent.invariant.appended (subst (λ part. Appends (held c.loop-sent.sink) (held c.write.new.self) (take count part)) rest c.in-Ok.ensures.appended);
      never_falls = omega (arith, c.loop-sent.invariant.never_falls, c.in-Ok.ensures.never_falls);
    }
