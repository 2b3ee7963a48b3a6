-- What a seat knows at each stage of its turn.
use Rattle.std.specs.Prelude.{◌≡◌, ℕ, ◌+◌, List, [], Option}
use Rattle.atomic_table.specs.Seated.{TableId}
use Rattle.turn_lock.specs.declared.View.{View}
use Rattle.turn_lock.specs.declared.Stage.{Stage}
use Rattle.turn_lock.specs.declared.Stage.TheVariants.{Idle, Waits, Turn, Holds, Counted, Home}
use Rattle.turn_lock.specs.Turn.{loan_at, own_of, ended_by}

-- the place is at this board, which is a lock's
abbrev pub IsAt : TableId → TableId → Type 0
IsAt board place = (place ≡ board) × (board.words ≡ 3) × (board.slots ≡ 1)

abbrev pub history_in : {E : Type 0} → Stage E → List E
history_in (Holds t taken) = taken
history_in _ = []

abbrev pub ticket_of : {E : Type 0} → Stage E → ℕ
ticket_of Idle = 0
ticket_of (Waits t) = t
ticket_of (Turn t) = t
ticket_of (Holds t _) = t
ticket_of (Counted t _) = t
ticket_of (Home t) = t

module _ {E L B : Type 0} where
  -- the history that the value had when the seat took it
  abbrev pub taken : View E L B → List E
  taken v = history_in v.stage

  abbrev pub its_ticket : View E L B → ℕ
  its_ticket v = ticket_of v.stage

  -- the view after each step of a turn, in their order
  abbrev pub drawn : View E L B → ℕ → View E L B
  drawn v t = record v { stage = Waits t; holds = v.holds + 1 }

  abbrev pub turned : View E L B → ℕ → View E L B
  turned v t = record v { stage = Turn t }

  abbrev pub holding : View E L B → ℕ → List E → List (Option L) → View E L B
  holding v t log found = record v { stage = Holds t log; note = found }

  abbrev pub counting : (E → ℕ) → View E L B → List E → View E L B
  counting by v log = record v { stage = Counted (its_ticket v) log; seen = log; own = own_of by v.number log }

  abbrev pub homing : View E L B → List (Option L) → View E L B
  homing v loans = let after = loan_at loans v.number in record v { stage = Home (its_ticket v); loan = after; ended = ended_by v.loan after v.ended }

  abbrev pub passing : View E L B → View E L B
  passing v = record v { stage = Idle }

  -- the first three steps, which found this history and these loans
  abbrev pub begun : View E L B → ℕ → List E → List (Option L) → View E L B
  begun v t log found = record v { stage = Holds t log; holds = v.holds + 1; note = found }

  -- the last three steps, which left this history and these loans
  abbrev pub ended : (E → ℕ) → View E L B → List E → List (Option L) → View E L B
  ended by v log loans = let after = loan_at loans v.number in record v { stage = Idle; seen = log; own = own_of by v.number log; loan = after; ended = ended_by v.loan after v.ended }
