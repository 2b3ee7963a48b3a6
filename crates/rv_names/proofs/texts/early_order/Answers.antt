use Rattle.std.proofs.Common.{◌∙◌, arith}
use Rattle.std.proofs.lemmas.Grind.{common_steps}
use Rattle.rv_names.proofs.OrderLemmas.{told_by}
use Rattle.rv_names.proofs.texts.early_order.Goals as goal

pub returns-then-one-i : goal.returns-then-one-i
returns-then-one-i c = c.cmp.ensures ∙ told_by c.args.one.now c.args.other.now c.loop-i.i (grind (arith, common_steps)) (grind (arith, common_steps)) c.loop-i.invariant.same c.if-one-i.true
