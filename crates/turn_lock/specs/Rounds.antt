-- The seats while they are made, and while they are taken in.
use Rattle.std.specs.Prelude.{◌≡◌, ℕ, ◌+◌, ◌<◌, List, [], length}
use mathlib.Core.Option.{some}
use lib.ListN.{get_elem?}
use Rattle.atomic_table.specs.Seated.{TableId}
use Rattle.turn_lock.specs.declared.Seat.{Seat}
use Rattle.turn_lock.specs.declared.View.{View}
use Rattle.turn_lock.specs.Seats.{seat_view, lock_of, Rests}
use Rattle.turn_lock.specs.Turn.{StartsWith, own_of, fresh}

module _ {V E L B : Type 0} where
  -- so many seats were made, which have done nothing
  pub record AreMade (lock : TableId) (badge : B) (n : ℕ) (seats : List (Seat V E L B)) : Type 0 where
    pub count : length seats ≡ n
    pub first : (seat : Seat V E L B) → get_elem? seats 0 ≡ some seat → (lock_of seat ≡ lock) × (seat.place.me ≡ (fresh 1 n badge, []))
    pub others : (i : ℕ) (seat : Seat V E L B) → 0 < i → get_elem? seats i ≡ some seat → (lock_of seat ≡ lock) × (seat.place.me ≡ (fresh (i + 1) 0 badge, []))

  -- these seats can be taken in
  abbrev pub AreOthers : TableId → List (Seat V E L B) → Type 0
  AreOthers lock seats = (i : ℕ) (seat : Seat V E L B) → get_elem? seats i ≡ some seat → (lock_of seat ≡ lock) × Rests seat

  -- a view that took these seats in
  pub record IsGathered (before : View E L B) (seats : List (Seat V E L B)) (after : View E L B) : Type 0 where
    pub same : after ≡ record before { joined = after.joined }
    pub each : (i : ℕ) (seat : Seat V E L B) → get_elem? seats i ≡ some seat → (k : ℕ) × (get_elem? after.joined k ≡ some ((seat_view seat).number, (seat_view seat).own, (seat_view seat).seen))

module _ {V E L B : Type 0} (history : V → List E) (by : E → ℕ) where
  -- what the value tells that is taken out with the view of the first seat
  pub record IsLeftBy (v : View E L B) (x : V) : Type 0 where
    pub seen : StartsWith (history x) v.seen
    pub own : v.own ≡ own_of by v.number (history x)
    pub joined : (i : ℕ) (p : ℕ × List E × List E) → get_elem? v.joined i ≡ some p → (p.1 ≡ own_of by p.0 (history x)) × StartsWith (history x) p.2
    pub no_others : (n : ℕ) → v.made < n → own_of by n (history x) ≡ []
