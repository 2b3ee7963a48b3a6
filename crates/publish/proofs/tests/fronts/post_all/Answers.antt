use Rattle.std.specs.Arc.{arc_value}
use Rattle.publish.proofs.Fronts.{front_next}
use Rattle.publish.proofs.tests.fronts.post_all.Goals as goal

pub post-requires : goal.post-requires
post-requires g c = record { follows = rw (c.loop-len.invariant.1, c.in_ok-first_of.ensures) (front_next c.loop-len.len (arc_value c.args.all.now).items) }
