-- The rule of the lock, which holds between any two steps, and what each step tells the seat that makes it.
-- Word 0 is the number of tickets that were drawn, word 1 the number of tickets that were served, each modulo 2^64, and word 2 the length of the history. The slot holds the value.
use Rattle.std.specs.Prelude.{◌≡◌, ◌≢◌, ℕ, ◌+◌, ◌%◌, ◌^◌, ◌<◌, ◌≤◌, ◌==◌, Bool, true, false, List, [], ◌∷◌, ◌++◌, length, filter, slice_index, slice_index_or, All, ◌⊎◌, Option, Some, None}
use mathlib.Core.Option.{some}
use lib.ListN.{get_elem?}
use Rattle.atomic_table.specs.Table.{State, Me, Step}
use Rattle.turn_lock.specs.declared.View.{View}
use Rattle.turn_lock.specs.declared.Stage.{Stage}
use Rattle.turn_lock.specs.declared.Stage.TheVariants.{Idle, Waits, Turn, Holds, Counted, Home}

-- xs begins with seen
abbrev pub StartsWith : {E : Type 0} → List E → List E → Type 0
StartsWith {E} xs seen = (rest : List E) × (xs ≡ seen ++ rest)

-- the numbers of all elements, added up
abbrev pub total : {A : Type 0} → (A → ℕ) → List A → ℕ
total f [] = 0
total f (x ∷ xs) = f x + total f xs

-- no two places have one key
abbrev pub Unique : {A : Type 0} → (A → Option ℕ) → List A → Type 0
Unique {A} key xs = (i j k : ℕ) (x y : A) → get_elem? xs i ≡ some x → get_elem? xs j ≡ some y → key x ≡ Some k → key y ≡ Some k → i ≡ j

module _ {E : Type 0} where
  abbrev pub ticket_in : Stage E → Option ℕ
  ticket_in Idle = None
  ticket_in (Waits t) = Some t
  ticket_in (Turn t) = Some t
  ticket_in (Holds t _) = Some t
  ticket_in (Counted t _) = Some t
  ticket_in (Home t) = Some t

  abbrev pub one_if_in_line : Stage E → ℕ
  one_if_in_line Idle = 0
  one_if_in_line (Waits t) = 1
  one_if_in_line (Turn t) = 1
  one_if_in_line (Holds t _) = 1
  one_if_in_line (Counted t _) = 1
  one_if_in_line (Home t) = 1

  -- the slot is out with the seat
  abbrev pub is_out : Stage E → Bool
  is_out Idle = false
  is_out (Waits t) = false
  is_out (Turn t) = false
  is_out (Holds t _) = true
  is_out (Counted t _) = true
  is_out (Home t) = false

abbrev pub one_if : Bool → ℕ
one_if true = 1
one_if false = 0

abbrev pub some_if : Bool → ℕ → Option ℕ
some_if true n = Some n
some_if false n = None

module _ {E L B : Type 0} where
  abbrev pub ticket : View E L B → Option ℕ
  ticket v = ticket_in v.stage

  abbrev pub in_line : View E L B → ℕ
  in_line v = one_if_in_line v.stage

  abbrev pub alive : View E L B → ℕ
  alive v = one_if v.lives

  abbrev pub number : View E L B → Option ℕ
  number v = some_if v.lives v.number

module _ {E : Type 0} (log : List E) (drawn served holder seat : ℕ) (home : Bool) where
  -- what a seat at this stage knows
  abbrev pub Knows : Stage E → Type 0
  Knows Idle = Unit {0}
  Knows (Waits t) = (served ≤ t) × (t < drawn)
  Knows (Turn t) = (t ≡ served) × (t < drawn)
  Knows (Holds t taken) = (t ≡ served) × (t < drawn) × (home ≡ false) × (holder ≡ seat) × (taken ≡ log)
  Knows (Counted t counted) = (t ≡ served) × (t < drawn) × (home ≡ false) × (holder ≡ seat) × (counted ≡ log)
  Knows (Home t) = (t ≡ served) × (t < drawn)

-- the entries of one number
abbrev pub own_of : {E : Type 0} → (E → ℕ) → ℕ → List E → List E
own_of by n log = filter (λ e. by e == n) log

abbrev Sat : Type 0 → Type 0 → Type 0 → Type 0 → Type 0
Sat V E L B = Me (Option V) (View E L B)

module _ {E L B : Type 0} (by : E → ℕ) where
  -- A view, at the place `seat` among the views, fits the history `log`, the tickets, the seat that has the slot, how many seats were made, whether the value is at home, and the badge
  pub record Fits (log : List E) (drawn served holder made seat : ℕ) (home : Bool) (mark : B) (v : View E L B) : Type 0 where
    pub seen : StartsWith log v.seen
    pub own : v.lives ≡ true → v.own ≡ own_of by v.number log
    pub numbered : v.lives ≡ true → (0 < v.number) × (v.number ≤ made)
    pub spent : v.lives ≡ false → v.stage ≡ Idle
    pub stage : Knows log drawn served holder seat home v.stage
    pub badge : v.lives ≡ true → v.badge ≡ Some mark
    pub first : v.number ≡ 1 → (seat ≡ 0) × (v.lives ≡ true) × (v.made ≡ made)

-- the loan of the number n
abbrev pub loan_at : {L : Type 0} → List (Option L) → ℕ → Option L
loan_at loans n = slice_index_or loans n None

-- the list of ended loans, where a loan became another one
abbrev pub ended_by : {L : Type 0} → Option L → Option L → List L → List L
ended_by None after xs = xs
ended_by (Some x) None xs = xs ++ x ∷ []
ended_by (Some x) (Some y) xs = xs

-- the loans of all numbers but n are the same
abbrev pub SameBut : {L : Type 0} → ℕ → List (Option L) → List (Option L) → Type 0
SameBut n xs ys = (k : ℕ) → k ≢ n → loan_at xs k ≡ loan_at ys k

-- the history after a hold by the seat n, which adds entries of n or of none
abbrev pub Adds : {E : Type 0} → (E → ℕ) → ℕ → List E → List E → Type 0
Adds {E} by n before after = (added : List E) × (after ≡ before ++ added) × All (λ e. (by e ≡ n) ⊎ (by e ≡ 0)) added

module _ {E L B : Type 0} where
  -- the loans are those of the views that live, but for a seat that is skipped, and there are no others
  abbrev pub Agrees : List (Option L) → ℕ → List (View E L B) → (ℕ → Type 0) → Type 0
  Agrees loans made views skip = ((j : ℕ) (u : View E L B) → get_elem? views j ≡ some u → ¬ skip j → u.lives ≡ true → loan_at loans u.number ≡ u.loan) × ((n : ℕ) → made < n → loan_at loans n ≡ None)

  -- of a number that was joined: its entries, what it had seen, and no seat has that number
  abbrev pub IsGone : (E → ℕ) → List E → ℕ → List (View E L B) → ℕ × List E × List E → Type 0
  IsGone by log made views p = (p.1 ≡ own_of by p.0 log) × StartsWith log p.2 × (0 < p.0) × (p.0 ≤ made) × ((j : ℕ) (u : View E L B) → get_elem? views j ≡ some u → u.lives ≡ true → u.number ≢ p.0)

module _ {V E L B : Type 0} (history : V → List E) (by : E → ℕ) (loans : V → List (Option L)) (badge : V → B) where
  -- The rule. What was seen is a prefix of the one counted history; the tickets held are the numbers from the served one up to the drawn one, one for each view in line;
  -- the slot is at home with the counted history, or out with the one view at `holder`; each own entry, loan and badge is what the value tells
  pub record Turned (s : State (Option V) (View E L B)) : Type 0 where
    pub log : List E
    pub drawn : ℕ
    pub served : ℕ
    pub holder : ℕ
    pub made : ℕ
    pub home : Bool
    pub mark : B
    pub wide : length s.words ≡ 3
    pub deep : length s.homes ≡ 1
    pub ticket_is : slice_index s.words 0 ≡ drawn % 2 ^ 64
    pub serving_is : slice_index s.words 1 ≡ served % 2 ^ 64
    pub count_is : slice_index s.words 2 ≡ length log
    pub queued : drawn ≡ served + total in_line s.views
    pub few : total alive s.views ≤ made
    pub bound : made ≤ 64
    pub each_seat : (j : ℕ) (v : View E L B) → get_elem? s.views j ≡ some v → Fits by log drawn served holder made j home mark v
    pub tickets : Unique ticket s.views
    pub numbers : Unique number s.views
    pub no_others : (n : ℕ) → made < n → own_of by n log ≡ []
    pub slot_home : home ≡ true → (x : V) × (get_elem? s.homes 0 ≡ some (some (Some x))) × (history x ≡ log) × (badge x ≡ mark) × Agrees (loans x) made s.views (λ _. ⊥)
    pub slot_out : home ≡ false → (v : View E L B) × (get_elem? s.views holder ≡ some v) × (is_out v.stage ≡ true) × Agrees v.note made s.views (λ j. j ≡ holder)
    pub joined : (j : ℕ) (v : View E L B) → get_elem? s.views j ≡ some v → v.number ≡ 1 → (i : ℕ) (p : ℕ × List E × List E) → get_elem? v.joined i ≡ some p → IsGone by log made s.views p

  -- What each kind of step tells: of its step, the seat before, the number found, and the seat after
  abbrev pub drew : Step (Option V) → Sat V E L B → ℕ → Sat V E L B → Type 0
  drew st m r m' = (t : ℕ) × (r ≡ t % 2 ^ 64) × (m' ≡ (record m.0 { stage = Waits t; holds = m.0.holds + 1 }, m.1))

  abbrev pub looked : Step (Option V) → Sat V E L B → ℕ → Sat V E L B → Type 0
  looked st m r m' = (t : ℕ) → m.0.stage ≡ Waits t → (r ≡ t % 2 ^ 64 → m' ≡ (record m.0 { stage = Turn t }, m.1)) × (r ≢ t % 2 ^ 64 → m' ≡ m)

  abbrev pub took : Step (Option V) → Sat V E L B → ℕ → Sat V E L B → Type 0
  took st m r m' = (t : ℕ) → m.0.stage ≡ Turn t → (x : V) × (m' ≡ (record m.0 { stage = Holds t (history x); note = loans x }, (0, Some x) ∷ m.1)) × StartsWith (history x) m.0.seen
      × (m.0.badge ≡ Some (badge x)) × (loan_at (loans x) m.0.number ≡ m.0.loan)

  abbrev pub counted : Step (Option V) → Sat V E L B → ℕ → Sat V E L B → Type 0
  counted st m r m' = (t : ℕ) (x : V) (taken : List E) → m.0.stage ≡ Holds t taken → m.1 ≡ (0, Some x) ∷ []
      → m' ≡ (record m.0 { stage = Counted t (history x); seen = history x; own = own_of by m.0.number (history x) }, m.1)

  abbrev pub came_home : Step (Option V) → Sat V E L B → ℕ → Sat V E L B → Type 0
  came_home st m r m' = (t : ℕ) (x : V) (log : List E) → m.0.stage ≡ Counted t log → m.1 ≡ (0, Some x) ∷ []
      → let after = loan_at (loans x) m.0.number in m' ≡ (record m.0 { stage = Home t; loan = after; ended = ended_by m.0.loan after m.0.ended }, [])

  abbrev pub passed : Step (Option V) → Sat V E L B → ℕ → Sat V E L B → Type 0
  passed st m r m' = m' ≡ (record m.0 { stage = Idle }, m.1)

  abbrev pub glanced : Step (Option V) → Sat V E L B → ℕ → Sat V E L B → Type 0
  glanced st m r m' = (log : List E) × StartsWith log m.0.seen × (r ≡ length log) × (m' ≡ (record m.0 { seen = log }, m.1))

module _ {E L B : Type 0} where
  -- a seat that has done nothing yet
  abbrev pub fresh : ℕ → ℕ → B → View E L B
  fresh n made b = record { number = n; lives = true; stage = Idle; seen = []; own = []; holds = 0; loan = None; ended = []; note = []; badge = Some b; made = made; joined = [] }

  -- the first seat, which makes the others
  abbrev pub starting : B → View E L B
  starting b = fresh 1 1 b

  -- the first seat makes one more
  abbrev pub makes : View E L B → View E L B
  makes v = record v { made = v.made + 1 }

  -- the seat that it makes, which has seen as much and has the same badge
  abbrev pub is_made : View E L B → View E L B
  is_made v = record { number = v.made + 1; lives = true; stage = Idle; seen = v.seen; own = []; holds = 0; loan = None; ended = []; note = []; badge = v.badge; made = 0; joined = [] }

  -- the first seat keeps what the other knew under its number
  abbrev pub takes_in : View E L B → View E L B → View E L B
  takes_in v w = record v { joined = v.joined ++ (w.number, w.own, w.seen) ∷ [] }

  -- a seat that was joined
  abbrev pub gone : View E L B
  gone = record { number = 0; lives = false; stage = Idle; seen = []; own = []; holds = 0; loan = None; ended = []; note = []; badge = None; made = 0; joined = [] }
