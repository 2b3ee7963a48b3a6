use Rattle.std.proofs.Common.{rules}
use Rattle.turn_lock.proofs.Ends.{splits}
use Rattle.turn_lock.proofs.TurnLock.another.Goals as goal

pub split_seat-place-requires : goal.split_seat-place-requires
split_seat-place-requires g c = (c.requires.of_lock, search rules, splits g.V.Told.history g.V.Told.by g.V.Told.loans g.V.Told.badge _ _ c.requires.first c.requires.rests.1 c.requires.room)
