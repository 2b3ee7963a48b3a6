use Rattle.std.proofs.Common.{arith}
use Rattle.std.proofs.lemmas.List.{get_or_read}
use Rattle.std.proofs.lemmas.Grind.{common_steps}
use Rattle.rv_names.proofs.InlineLemmas.{ascii_turn, byte_turn, all_ascii, front_same, bytes_utf8, bytes_encode}
use Rattle.rv_names.proofs.inline.Inline.ascii.Goals as goal

pub loop-i-preserved : goal.loop-i-preserved
loop-i-preserved c =
    let read = get_or_read c.args.text.now c.loop-i.i c.index-text-i.result (grind arith) c.index-text-i.is 0 in
    record {
      room = grind (arith, common_steps);
      same = byte_turn c.args.text.now c.loop-i.bytes c.loop-i.i _ (grind arith) (grind arith) (grind arith) c.loop-i.invariant.same;
      ascii = ascii_turn c.args.text.now c.loop-i.i (grind arith) (grind arith) c.loop-i.invariant.ascii;
    }

pub invariant_of-result : goal.invariant_of-result
invariant_of-result c =
    let same = front_same c.args.text.now c.loop-i.bytes c.loop-i.i c.loop-i-test.false c.loop-i.auto.i-end c.loop-i.invariant.same in
    let ascii = all_ascii c.args.text.now c.loop-i.i c.loop-i-test.false c.loop-i.invariant.ascii in
    (c.if-text-gt-ROOM.false, c.loop-i.invariant.room, ∣ bytes_utf8 c.args.text.now _ same ascii ∣₁)

pub returns-clause-kept : goal.returns-clause-kept
returns-clause-kept c =
    let same = front_same c.args.text.now c.loop-i.bytes c.loop-i.i c.loop-i-test.false c.loop-i.auto.i-end c.loop-i.invariant.same in
    let ascii = all_ascii c.args.text.now c.loop-i.i c.loop-i-test.false c.loop-i.invariant.ascii in
    bytes_encode c.args.text.now _ same ascii
