use Rattle.std.proofs.Common.{arith, rules}
use Rattle.ready_list.proofs.Rings.{grown-none, grown-more}
use Rattle.ready_list.proofs.chain.add_alone.Goals as goal

pub loop-place-init : goal.loop-place-init
loop-place-init c =
    (search rules, search rules, grown-none _ _ (omega arith))

pub loop-place-preserved : goal.loop-place-preserved
loop-place-preserved c = (
  omega arith,
  omega arith,
  grown-more _ _ _ _ (omega arith) c.loop-place.invariant.2 c.push_reserved.ensures.items,
)
