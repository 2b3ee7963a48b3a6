-- What a contract reads of a lock, and of a value that is held.
use Rattle.std.specs.Prelude.{◌≡◌, ℕ, ◌+◌, ◌<◌, List, length, slice_get, Some}
use Rattle.std.specs.Borrow.{MutBor}
use Rattle.atomic_table.specs.Seated.{TableId}
use Rattle.turn_lock.specs.declared.TurnLock.{TurnLock}
use Rattle.turn_lock.specs.declared.Held.{Held}
use Rattle.turn_lock.specs.declared.Seat.{Seat}
use Rattle.turn_lock.specs.declared.View.{View}
use Rattle.turn_lock.specs.Seats.{seat_view, lock_of, Rests, IsOut}

module _ {V E L B : Type 0} where
  -- which lock it is
  abbrev pub id_of : TurnLock V E L B → TableId
  id_of lock = lock.table.shared.table_id

  -- the value in the hand
  abbrev pub value_in : Held V E L B → V
  value_in held = held.value

  -- the same, with another value in the hand
  abbrev pub with_value : Held V E L B → V → Held V E L B
  with_value held x = record held { value = x }

  -- the seat that holds the value
  abbrev pub seat_in : Held V E L B → Seat V E L B
  seat_in held = held.seat.now

  -- the reference by which that seat is held
  abbrev pub lent_by : Held V E L B → ℕ
  lent_by held = held.seat.ghost_name

  -- what the seat knows that holds the value
  abbrev pub held_view : Held V E L B → View E L B
  held_view held = seat_view held.seat.now

  -- the value is out with a seat of the lock
  abbrev pub IsHeld : Held V E L B → Type 0
  IsHeld held = IsOut held.seat.now × (lock_of held.seat.now ≡ held.lock.now.table.shared.table_id)

  -- The seat is of this lock, has this number, and rests
  pub record IsSeat (lock : TableId) (n : ℕ) (seat : Seat V E L B) : Type 0 where
    pub of_lock : lock_of seat ≡ lock
    pub rests : Rests seat
    pub numbered : (seat_view seat).number ≡ n

  -- All seats of a lock, in the order of their numbers. The first one knows how many there are
  pub record AreAll (lock : TableId) (seats : List (Seat V E L B)) : Type 0 where
    pub each : (i : ℕ) (seat : Seat V E L B) → slice_get seats i ≡ Some seat → IsSeat lock (i + 1) seat
    pub some : 0 < length seats
    pub whole : (seat : Seat V E L B) → slice_get seats 0 ≡ Some seat → (seat_view seat).made ≡ length seats

-- the seat that was lent to a held value, when that value is gone
abbrev pub left : {A S C : Type 0} → A × (MutBor S × C) → S
left gone = gone.1.0.now
