use Rattle.std.proofs.Common.{rules}
use Rattle.turn_lock.proofs.Ends.{joins}
use Rattle.turn_lock.proofs.TurnLock.take_in.Goals as goal

pub join_seat-requires : goal.join_seat-requires
join_seat-requires g c =
    let mine = c.requires.rest.0 in
    let theirs = c.requires.rest.1 in
    (c.requires.of_lock.0, c.requires.of_lock.1, theirs.0, search rules, joins g.V.Told.history g.V.Told.by g.V.Told.loans g.V.Told.badge _ _ _ _ mine.1 theirs.1 theirs.2)
