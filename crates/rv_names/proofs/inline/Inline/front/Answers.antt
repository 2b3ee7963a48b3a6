use Rattle.std.proofs.Common.{arith}
use Rattle.rv_names.proofs.InlineLemmas.{front_of, front_ascii, bytes_utf8, bytes_encode}
use Rattle.rv_names.proofs.inline.Inline.front.Goals as goal

pub invariant_of-result : goal.invariant_of-result
invariant_of-result c =
    let same = front_of c.args.chars.now c.loop-i.bytes c.args.len c.loop-i.i (omega arith) (c.loop-i.invariant.same c.if-not-plain.false) in
    let ascii = front_ascii c.args.chars.now c.args.len c.loop-i.i (omega arith) (c.loop-i.invariant.ascii c.if-not-plain.false) in
    (c.if-len-gt-ROOM.false, c.loop-i.invariant.room, ∣ bytes_utf8 _ _ same ascii ∣₁)

pub returns-clause-kept : goal.returns-clause-kept
returns-clause-kept c =
    let same = front_of c.args.chars.now c.loop-i.bytes c.args.len c.loop-i.i (omega arith) (c.loop-i.invariant.same c.if-not-plain.false) in
    let ascii = front_ascii c.args.chars.now c.args.len c.loop-i.i (omega arith) (c.loop-i.invariant.ascii c.if-not-plain.false) in
    bytes_encode _ _ same ascii
