use Rattle.std.proofs.Common.{◌≡◌, true, false, arith}
use Rattle.phrases.specs.Sets.{starts}
use Rattle.phrases.proofs.Loops.{left_all, left_turn, left_over, stopped}
use Rattle.phrases.proofs.read.many.Goals as goal

pub each_item-init : goal.each_item-init
each_item-init g c = (omega arith, λ class first reader tells reads. rw c.new-items.ensures (left_all class first reader _))

pub each_item-preserved : goal.each_item-preserved
each_item-preserved g c = (
  omega (arith, c.in-Ok.ensures.shorter, c.each_item.invariant.0),
  λ class first reader tells reads.
      let b : starts class first c.each_item.rest.now ≡ true = cc (c.begins_at.ensures class first tells) in
      rw c.in_ok-push.ensures.ok (left_turn class first reader _ _ _ _ _ (c.each_item.invariant.1 class first reader tells reads) b (c.in-Ok.ensures.read reader reads) c.in-Ok.ensures.shorter),
)

pub returns-clause-read : goal.returns-clause-read
returns-clause-read g c = λ class first reader tells reads.
    let b : starts class first c.each_item.rest.now ≡ false = cc (c.begins_at.ensures class first tells) in
    left_over class first reader _ _ _ (c.each_item.invariant.1 class first reader tells reads) b

pub returns-in-Err-clause-read : goal.returns-in-Err-clause-read
returns-in-Err-clause-read g c = λ class first reader tells reads.
    let b : starts class first c.each_item.rest.now ≡ true = cc (c.begins_at.ensures class first tells) in
    stopped class first reader _ _ _ _ (c.each_item.invariant.1 class first reader tells reads) b (c.in-Err.ensures.read reader reads)
