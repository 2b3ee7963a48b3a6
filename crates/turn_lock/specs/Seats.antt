-- What a contract reads of a seat.
use Rattle.std.specs.Prelude.{◌≡◌, [], ◌∷◌, Some, None, true}
use Rattle.atomic_table.specs.Seated.{TableId}
use Rattle.turn_lock.specs.declared.Seat.{Seat}
use Rattle.turn_lock.specs.declared.View.{View}
use Rattle.turn_lock.specs.declared.Stage.TheVariants.{Idle, Holds}
use Rattle.turn_lock.specs.Stages.{taken, its_ticket}

module _ {V E L B : Type 0} where
  -- which lock the seat is of
  abbrev pub lock_of : Seat V E L B → TableId
  lock_of seat = seat.place.table_id

  -- what the seat knows
  abbrev pub seat_view : Seat V E L B → View E L B
  seat_view seat = seat.place.me.0

  -- the seat holds nothing, and waits for nothing
  abbrev pub Rests : Seat V E L B → Type 0
  Rests seat = (seat.place.me.1 ≡ []) × (seat.place.me.0.stage ≡ Idle) × (seat.place.me.0.lives ≡ true)

  -- the value is out with the seat
  abbrev pub IsOut : Seat V E L B → Type 0
  IsOut seat = (seat.place.me.1 ≡ (0, None) ∷ []) × (seat.place.me.0.lives ≡ true) × (seat.place.me.0.stage ≡ Holds (its_ticket seat.place.me.0) (taken seat.place.me.0))

module _ {E L B : Type 0} where
  -- the seat has done nothing yet, and has this badge
  pub record IsNew (badge : B) (v : View E L B) : Type 0 where
    pub badge_is : v.badge ≡ Some badge
    pub seen : v.seen ≡ []
    pub own : v.own ≡ []
    pub loan : v.loan ≡ None
    pub holds : v.holds ≡ 0
    pub ended : v.ended ≡ []
    pub note : v.note ≡ []
