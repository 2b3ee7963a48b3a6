use Rattle.std.proofs.Common.{rules}
use Rattle.turn_lock.proofs.Steps.{glances}
use Rattle.turn_lock.proofs.TurnLock.glance.Goals as goal

pub load-requires : goal.load-requires
load-requires g c = (c.requires.of_lock, search rules, glances g.V.Told.history g.V.Told.by g.V.Told.loans g.V.Told.badge _ _ _ c.requires.rests.1)
