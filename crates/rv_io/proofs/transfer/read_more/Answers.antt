use Rattle.std.proofs.Common.{◌+◌, ◌≤◌, length, take, arith, ◌∙◌, ap, length-drop}
use Rattle.std.proofs.lemmas.List.{take_rest}
use Rattle.rv_io.proofs.Room.{gains_read}
use Rattle.rv_io.proofs.transfer.read_more.Goals as goal

pub returns-in-Ok-clause-moved : goal.returns-in-Ok-clause-moved
returns-in-Ok-clause-moved g c =
    let start = c.len-start.result in
    let longer = c.deref_mut.result.now in
    let within : c.in-Ok.count ≤ length c.read.new.buf = c.in-Ok.ensures.within.0 in
    let fits : start + c.in-Ok.count ≤ c.resize.new.self.len =
    omega (arith, within, c.read.auto.buf ∙ ap length (take_rest longer start), length-drop start longer, c.deref_mut.ensures.len, c.in_ok-resize.ensures.len) in
    let gained =
    gains_read c.args.buf.now.items _ longer c.read.new.buf _ _ start (start + c.min-room.result) c.in-Ok.count c.resize.new.self.len
    (omega (arith, c.len-start.ensures, c.args.buf.now.ok.0)) (omega arith) (c.deref_mut.ensures.value ∙ c.in_ok-resize.ensures.items) within fits in
    (take c.in-Ok.count c.read.new.buf, c.truncate-in-Ok.ensures.items ∙ gained, c.in-Ok.ensures.taken)
