use Rattle.std.proofs.Common.{take, drop, refl, sym, inr, take-append-drop}
use Rattle.check_stream.proofs.sending.send.Goals as goal

pub returns-in-Err-clause-sent : goal.returns-in-Err-clause-sent
returns-in-Err-clause-sent g c =
    let n = c.in-Err.field-0.sent in
    let text = c.args.text.now in
    (take n text, c.in-Err.ensures.sent, inr (refl, c.in-Err.ensures.cause, (drop n text, sym (take-append-drop n text))))
