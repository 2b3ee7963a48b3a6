-- What clauses see of a numbering of qualified names: the list of the names, in which each stands at its number.
use Rattle.std.specs.Prelude.{◌≡◌, ℕ, Bool, List, [], ◌∷◌, ◌++◌, ◌<◌, ◌^◌, length, if◌then◌else◌, Option, Some, slice_get, position}
use Rattle.std.specs.List.{list_any}
use Rattle.rv_names.specs.Keys.{Parts, parts_equal}

-- k is the number of the name
abbrev pub IsNumberOf : List Parts → Parts → ℕ → Type 0
IsNumberOf names name k = slice_get names k ≡ Some name

-- no name has two numbers; that no number has two names is plain, since a list has one item at a place
abbrev pub IsOneToOne : List Parts → Type 0
IsOneToOne names = (name : Parts) (j k : ℕ) → IsNumberOf names name j → IsNumberOf names name k → j ≡ k

-- whether the name has a number
abbrev pub has_number : List Parts → Parts → Bool
has_number names name = list_any (parts_equal name) names

-- the number of the name, if it has one
abbrev pub number_of : List Parts → Parts → Option ℕ
number_of names name = position (parts_equal name) names

-- the names once this one has a number: a new name gets the next
abbrev pub with_name : List Parts → Parts → List Parts
with_name names name = if has_number names name then names else names ++ name ∷ []

-- what every numbering keeps
pub record IsNumbering (names : List Parts) : Type 0 where
  pub small : length names < 2 ^ 32
  pub one_to_one : IsOneToOne names
