-- What a check did with an input: the commands that it acted on, what it wrote for them, and how it ended.
use Rattle.std.specs.Prelude.{◌≡◌, ◌⊎◌, ◌-◌, ℕ, List, [], ◌∷◌, ◌++◌, IsTrue, nat_eq, length, Option, IfSome}
use Rattle.std.specs.Io.KnownBytes.{Consumes}
use Rattle.std.specs.List.{list_any}
use Rattle.rv_names.specs.Keys.{Bytes}
use Rattle.script.specs.declared.command.Command.{Command}
use Rattle.stream.specs.Commands.{Commands}
use Rattle.stream.specs.State.{ConsumesOneMore, input_limit}
use Rattle.check_stream.specs.Acts.{Said}
use Rattle.check_stream.specs.Ends.{Ends}
use Rattle.check_stream.specs.Progress.{Progress, at_first}
use Rattle.check_stream.specs.Sends.{IsFront}

-- where the source told the bytes that were left, the input is all of them
abbrev pub IsAll : Option Bytes → Bytes → Type 0
IsAll left input = IfSome left (λ bytes. input ≡ bytes)

-- the status is one of these
abbrev pub IsOneOf : List ℕ → ℕ → Type 0
IsOneOf statuses status = IsTrue (list_any (nat_eq status) statuses)

-- How far a check came in an input: the commands with which it begins were acted on one after the other, `lines` is what was due for
-- them, `progress` what they came to, and `rest` stands behind them.
pub record Came (input : Bytes) (progress : Progress) (lines rest : Bytes) : Type 0 where
  pub texts : List Bytes
  pub commands : List Command
  pub read : Commands input texts commands rest
  pub said : Said at_first commands texts lines progress

-- it came so far, and ends there
abbrev pub EndsAt : Bytes → Type 0 → Type 0 → Progress → Bytes → Bytes → ℕ → Type 0
EndsAt input over source_failed progress rest last status = Ends (length input - length rest) over source_failed progress rest last status

-- all that was due was written
pub record Whole (status : ℕ) (input out : Bytes) (over source_failed : Type 0) : Type 0 where
  pub progress : Progress
  pub lines : Bytes
  pub rest : Bytes
  pub last : Bytes
  pub came : Came input progress lines rest
  pub ends : EndsAt input over source_failed progress rest last status
  pub out_is : out ≡ lines ++ last

-- the last lines of a check that ends there, or none
abbrev pub IsLast : Bytes → Type 0 → Type 0 → Progress → Bytes → Bytes → Type 0
IsLast input over source_failed progress rest last = (last ≡ []) ⊎ ((status : ℕ) × EndsAt input over source_failed progress rest last status)

-- a front of what was due was written
pub record Broken (input out : Bytes) (over source_failed : Type 0) : Type 0 where
  pub progress : Progress
  pub lines : Bytes
  pub rest : Bytes
  pub last : Bytes
  pub came : Came input progress lines rest
  pub due : IsLast input over source_failed progress rest last
  pub front : IsFront out (lines ++ last)

-- nothing was written but for whole commands
pub record Stopped (input out : Bytes) : Type 0 where
  pub progress : Progress
  pub rest : Bytes
  pub came : Came input progress out rest

-- The statuses: 0 no issue, 3 no command, 4 the source failed, 5 the sink failed, 6 no memory, 7 too long, 8 issues, 9 a refused edit,
-- 10 no answer yet.
pub record Checked (status : ℕ) (input out : Bytes) (over source_failed sink_failed : Type 0) : Type 0 where
  pub statuses : IsOneOf (0 ∷ 3 ∷ 4 ∷ 5 ∷ 6 ∷ 7 ∷ 8 ∷ 9 ∷ 10 ∷ []) status
  pub whole : IsOneOf (0 ∷ 3 ∷ 4 ∷ 7 ∷ 8 ∷ 9 ∷ 10 ∷ []) status → Whole status input out over source_failed
  pub broken : status ≡ 5 → sink_failed × Broken input out over source_failed
  pub memory : status ≡ 6 → Stopped input out

-- one byte behind an input as long as it may be was taken too
abbrev pub OneMore : ℕ → Option Bytes → Option Bytes → Bytes → Type 0
OneMore total left_old left_new bytes = (total ≡ input_limit) × ConsumesOneMore left_old left_new bytes

-- What was taken from the source: the input, and where it is too long one byte more. Where the sink failed and where memory ran out it
-- may be either.
pub record Takes (status : ℕ) (left_old left_new : Option Bytes) (input : Bytes) : Type 0 where
  pub exact : IsOneOf (0 ∷ 3 ∷ 4 ∷ 8 ∷ 9 ∷ 10 ∷ []) status → Consumes left_old left_new input
  pub too_long : status ≡ 7 → OneMore (length input) left_old left_new input
  pub taken : Consumes left_old left_new input ⊎ OneMore (length input) left_old left_new input
