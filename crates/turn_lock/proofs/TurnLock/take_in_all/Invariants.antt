use Rattle.std.proofs.Common.{◌≡◌, List, ◌++◌, length}
use Rattle.turn_lock.specs.Rounds.{IsGathered}
use Rattle.turn_lock.specs.Seats.{seat_view, lock_of, Rests}
use Rattle.turn_lock.proofs.TurnLock.take_in_all.Given as goal

-- the seats that are no longer left are taken in
abbrev pub invariant-loop-seat : goal.invariant-loop-seat
invariant-loop-seat g l = (lock_of l.first ≡ lock_of l.initial.first) × Rests l.first
    × ((done : List _) × (l.initial.left.items ≡ l.left.items ++ done) × IsGathered (seat_view l.initial.first) done (seat_view l.first))

abbrev pub decreases-loop-seat : goal.decreases-loop-seat
decreases-loop-seat g l = length l.left.items
