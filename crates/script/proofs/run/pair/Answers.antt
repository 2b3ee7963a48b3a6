use Rattle.std.proofs.Common.{arith}
use Rattle.script.proofs.Json.{pair_fails, pair_short, pair_long}
use Rattle.script.proofs.run.pair.Goals as goal

pub returns-in-len1 : goal.returns-in-len1
returns-in-len1 c = pair_fails c.args.value.now c.in_ok-list.field-0.now c.in_ok-list.ensures (pair_short _ (omega arith))

pub returns-in-len3-up : goal.returns-in-len3-up
returns-in-len3-up c = pair_fails c.args.value.now c.in_ok-list.field-0.now c.in_ok-list.ensures (pair_long _ (omega arith))
