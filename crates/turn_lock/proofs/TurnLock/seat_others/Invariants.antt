use Rattle.std.proofs.Common.{◌≡◌, ◌<◌, ◌≤◌, ◌-◌, length, vec_capacity}
use Rattle.turn_lock.specs.Locks.{id_of}
use Rattle.turn_lock.specs.Rounds.{AreMade}
use Rattle.turn_lock.proofs.TurnLock.seat_others.Given as goal

-- so many seats are made, and there is room for all
abbrev pub invariant-loop-all : goal.invariant-loop-all
invariant-loop-all g l = (vec_capacity l.all ≡ vec_capacity l.initial.all) × (0 < length l.all.items) × (length l.all.items ≤ l.seats)
    × ((badge : _) → AreMade (id_of l.self) badge 1 l.initial.all.items → AreMade (id_of l.self) badge (length l.all.items) l.all.items)

abbrev pub decreases-loop-all : goal.decreases-loop-all
decreases-loop-all g l = l.seats - length l.all.items
