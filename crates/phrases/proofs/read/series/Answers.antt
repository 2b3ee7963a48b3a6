use Rattle.std.proofs.Common.{arith}
use Rattle.phrases.proofs.Loops.{left_in_all, next_in, stopped_in, closed_in}
use Rattle.phrases.proofs.read.series.Goals as goal

pub each_item-init : goal.each_item-init
each_item-init g c = (omega arith, λ class first reader next tells reads. rw c.new-items.ensures (left_in_all class first reader next _ _))

pub each_item-preserved : goal.each_item-preserved
each_item-preserved g c = (
  omega (arith, c.in-Ok.ensures.shorter, c.each_item.invariant.0),
  λ class first reader next tells reads.
      rw c.in_ok-push.ensures.ok (next_in class first reader next _ _ _ _ _ (c.each_item.invariant.1 class first reader next tells reads) _ _ _ _
      (cc (c.state_at.ensures class first tells)) (c.in-Ok.ensures.read reader next reads) c.in-Ok.ensures.shorter (c.in-Ok.ensures.next reader next reads)),
)

pub returns-clause-read : goal.returns-clause-read
returns-clause-read g c = λ class first reader next tells reads.
    closed_in class first reader next _ _ _ _ _ (c.each_item.invariant.1 class first reader next tells reads) (cc (c.state_at.ensures class first tells))

pub returns-in-Err-clause-read : goal.returns-in-Err-clause-read
returns-in-Err-clause-read g c = λ class first reader next tells reads.
    stopped_in class first reader next _ _ _ _ _ (c.each_item.invariant.1 class first reader next tells reads) _ _ (cc (c.state_at.ensures class first tells)) (c.in-Err.ensures.read reader next reads)
