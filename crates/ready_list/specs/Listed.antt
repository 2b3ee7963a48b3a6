-- What a caller sees of the list and of the set of this crate.
use Rattle.std.specs.Prelude.{◌≢◌, ℕ, ◌<◌, ◌^◌, Bool, not, false, ◌==◌, List, filter, slice_index_or, All, AllPairs}

-- a list of ids, from front to back, and the room: each id below it may enter the list
pub record Listed : Type 0 where
  pub ids : List ℕ
  pub room : ℕ

-- no id stands twice, and each is below the room, which is a number of 32 bits
pub record IsWellFormed (list : Listed) : Type 0 where
  pub distinct : AllPairs (λ x y. x ≢ y) list.ids
  pub within : All (λ id. id < list.room) list.ids
  pub fits : list.room < 2 ^ 32

-- the ids but this one, in the order in which they stand
abbrev pub without : ℕ → List ℕ → List ℕ
without id ids = filter (λ k. not (k == id)) ids

-- whether an id is in the set that a list of flags spells: its flag is set
abbrev pub is_set : List Bool → ℕ → Bool
is_set flags id = slice_index_or flags id false
