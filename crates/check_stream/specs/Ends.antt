-- How a check ends: what is written last, and the status.
use Rattle.std.specs.Prelude.{◌≡◌, ◌≢◌, ◌+◌, ℕ, Bool, [], ◌∷◌, length, if◌then◌else◌, Some, None, ⊤}
use Rattle.rv_names.specs.Keys.{Bytes}
use Rattle.script.specs.declared.command.Command.{Command}
use Rattle.script.specs.declared.command.Command.TheVariants as commands
use Rattle.script.specs.declared.command.Query.{Query}
use Rattle.script.specs.Stream.{BeginsWith, BeginsNone, IsUnfinished}
use Rattle.stream.specs.State.{input_limit}
use Rattle.cut_form.specs.Reports.{ReportParts, report_of}
use Rattle.edit_lines.specs.Lines.{malformed_line, not_yet_line, read_fault_line, too_long_line}
use Rattle.check_stream.specs.Progress.{Progress}

-- 9 where an edit was refused, else 8 where there is an issue, else 0
abbrev pub answer_status : Bool → Bool → ℕ
answer_status refused has_issue = if refused then 9 else (if has_issue then 8 else 0)

-- the command that ends a check, what is written for it, and the status: the end of the commands, or a question, which has no answer yet
pub data Closes (progress : Progress) : Command → Bytes → ℕ → Type 0 where
  answered : (report : ReportParts) → report_of progress.journal.files ≡ Some report
      → Closes progress commands.End report.lines (answer_status progress.refused report.has_issues)
  unanswered : report_of progress.journal.files ≡ None → Closes progress commands.End not_yet_line 10
  asked : (session : ℕ) (query : Query) → Closes progress (commands.Ask session query) not_yet_line 10

-- the first byte of a `run`, which isn't taken
abbrev pub run_byte : ℕ
run_byte = 114

-- no `run` stands at the front
abbrev pub StartsTaken : Bytes → Type 0
StartsTaken [] = ⊤
StartsTaken (byte ∷ more) = byte ≢ run_byte

-- a command that is taken can still come of the bytes
pub record IsOpen (rest : Bytes) : Type 0 where
  pub starts : StartsTaken rest
  pub none : BeginsNone 0 rest
  pub unfinished : IsUnfinished 0 rest

-- The bytes behind the commands that were acted on, which begin at a place of the input; `over` says that no more bytes come, and
-- `source_failed` that the source failed. What is written last, and the status.
pub data Ends (place : ℕ) (over source_failed : Type 0) (progress : Progress) (rest : Bytes) : Bytes → ℕ → Type 0 where
  closed : (command : Command) (behind last : Bytes) (status : ℕ) → BeginsWith 0 rest command behind → Closes progress command last status
      → Ends place over source_failed progress rest last status
  not_taken : (more : Bytes) → rest ≡ run_byte ∷ more → Ends place over source_failed progress rest (malformed_line place) 3
  malformed : BeginsNone 0 rest → (IsUnfinished 0 rest → over) → Ends place over source_failed progress rest (malformed_line place) 3
  unread : source_failed → IsOpen rest → Ends place over source_failed progress rest read_fault_line 4
  too_long : place + length rest ≡ input_limit → IsOpen rest → Ends place over source_failed progress rest too_long_line 7
