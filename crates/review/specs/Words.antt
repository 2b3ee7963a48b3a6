-- The words behind the program's name, and what is written where they are no command.
use Rattle.std.specs.Prelude.{◌≡◌, ℕ, List, [], ◌∷◌, codes, map, String}
use Rattle.std.specs.Global.{Global}
use Rattle.std.specs.String.{string_bytes}
use Rattle.check_stream.specs.Checks.{IsOneOf}
use Rattle.check_stream.specs.Sends.{IsFront}

abbrev pub usage_line : List ℕ
usage_line = codes "usage: review check | serve W | confirm | gen N SIZE | work N SIZE\n"

-- the words are `check` alone
abbrev pub IsCheck : List (String Global) → Type 0
IsCheck words = map string_bytes words ≡ codes "check" ∷ []

-- what other words do: the usage line is written, or the sink failed behind a front of it
pub record Refuses (status : ℕ) (out : List ℕ) (sink_failed : Type 0) : Type 0 where
  pub statuses : IsOneOf (2 ∷ 5 ∷ []) status
  pub usage : status ≡ 2 → out ≡ usage_line
  pub sink_fault : status ≡ 5 → sink_failed × IsFront out usage_line
