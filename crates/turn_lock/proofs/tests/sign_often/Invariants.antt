use Rattle.std.proofs.Common.{◌≡◌}
use Rattle.turn_lock.specs.Seats.{seat_view, lock_of, Rests}
use Rattle.turn_lock.proofs.tests.sign_often.Given as goal

-- the seat is still the same one, and rests
abbrev pub invariant-loop : goal.invariant-loop
invariant-loop g l = (lock_of l.seat ≡ lock_of l.initial.seat) × Rests l.seat × ((seat_view l.seat).number ≡ (seat_view l.initial.seat).number) × ((seat_view l.seat).made ≡ (seat_view l.initial.seat).made)
