-- Links by index. The place 0 is the head of the list, and the id k stands at the place k + 1. The links to the next
-- place and back are two lists of places that undo each other, so they fall into rings: the ring of the head is the
-- list, and each other place is a ring alone.
use Rattle.std.specs.Prelude.{◌≡◌, ◌≢◌, ℕ, ◌+◌, ◌-◌, ◌<◌, ◌≤◌, ◌^◌, suc, zero, List, [], ◌∷◌, length, slice_index, slice_set, All, AllPairs}
use Rattle.ready_list.specs.Listed.{Listed}

-- the ids at the n places that follow a place
abbrev pub following : List ℕ → ℕ → ℕ → List ℕ
following next zero place = []
following next (suc n) place = (slice_index next place - 1) ∷ following next n (slice_index next place)

-- from a place the links lead through the places of these ids, and then to the head
abbrev pub LeadsThrough : List ℕ → ℕ → List ℕ → Type 0
LeadsThrough next place [] = slice_index next place ≡ 0
LeadsThrough next place (id ∷ ids) = (slice_index next place ≡ id + 1) × LeadsThrough next (id + 1) ids

-- no element is k
abbrev pub Lacks : List ℕ → ℕ → Type 0
Lacks xs k = All (λ x. x ≢ k) xs

-- no element stands twice
abbrev pub HasNoRepeats : List ℕ → Type 0
HasNoRepeats xs = AllPairs (λ x y. x ≢ y) xs

-- a step by `links` from any place stays within, and a step by `back` returns
pub record IsUndoneBy (back links : List ℕ) : Type 0 where
  pub lengths : length back ≡ length links
  pub within : (k : ℕ) → k < length links → slice_index links k < length links
  pub returns : (k : ℕ) → k < length links → slice_index back (slice_index links k) ≡ k

-- the links spell these ids
pub record IsRing (next previous ids : List ℕ) : Type 0 where
  pub leads : LeadsThrough next 0 ids
  pub apart : HasNoRepeats ids
  pub alone : (k : ℕ) → k + 1 < length next → Lacks ids k → slice_index next (k + 1) ≡ k + 1
  pub back : IsUndoneBy previous next
  pub forth : IsUndoneBy next previous
  pub head : 0 < length next

-- the links after two writes: `a` leads to `b`, and then `x` to `y`
abbrev pub relinked : List ℕ → ℕ → ℕ → ℕ → ℕ → List ℕ
relinked links a b x y = slice_set (slice_set links a b) x y

-- more places, each a ring alone: the old links stay
pub record IsGrown (old new : List ℕ) (places : ℕ) : Type 0 where
  pub length_is : length new ≡ places
  pub kept : (k : ℕ) → k < length old → slice_index new k ≡ slice_index old k
  pub added : (k : ℕ) → length old ≤ k → k < places → slice_index new k ≡ k

-- the list that the fields spell: as many ids as its length says, behind the head
abbrev pub listed_by : List ℕ → ℕ → Listed
listed_by next len = record { ids = following next len 0; room = length next - 1 }

-- the fields spell a list, and each place is a number of 32 bits
pub record IsList (next previous : List ℕ) (len : ℕ) : Type 0 where
  pub ring : IsRing next previous (following next len 0)
  pub fits : length next ≤ 2 ^ 32
