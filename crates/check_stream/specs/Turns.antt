-- What one turn of a check does: the next command, and what is written for it.
use Rattle.std.specs.Prelude.{◌≡◌, ◌≢◌, ◌⊎◌, ◌+◌, ◌≤◌, ℕ, Bool, true, false, [], ◌∷◌, ◌++◌, length, Option, Some, None, IfSome, ⊤}
use Rattle.std.specs.Io.KnownBytes.{Consumes}
use Rattle.rv_names.specs.Keys.{Bytes}
use Rattle.script.specs.declared.command.Command.{Command}
use Rattle.script.specs.declared.command.Command.TheVariants as commands
use Rattle.script.specs.Grammar.{Spells}
use Rattle.stream.specs.declared.fault.StreamFault.{StreamFault}
use Rattle.stream.specs.declared.fault.StreamFault.TheVariants as faults
use Rattle.stream.specs.State.{State, bytes_of, taken, input_limit, IsMalformed, IsWaiting}
use Rattle.edit_lines.specs.Lines.{malformed_line, not_yet_line, read_fault_line, too_long_line}
use Rattle.check_stream.specs.declared.turn.Turn.{Turn}
use Rattle.check_stream.specs.declared.turn.Turn.TheVariants.{Lines, Last}
use Rattle.check_stream.specs.Acts.{Acts}
use Rattle.check_stream.specs.Checks.{OneMore}
use Rattle.check_stream.specs.Ends.{Closes, Ends, StartsTaken, run_byte}
use Rattle.check_stream.specs.Progress.{Progress, refusing}

-- a check takes the command: all but `run`
abbrev pub IsTaken : Command → Type 0
IsTaken (commands.Put path from len) = ⊤
IsTaken (commands.Drop path) = ⊤
IsTaken (commands.Ask session query) = ⊤
IsTaken commands.Sync = ⊤
IsTaken (commands.Run fuel calls draws) = ⊥
IsTaken commands.End = ⊤

-- ---- the next command

-- the stream before and after a step, over a source with these bytes left before and after it
pub record Steps (left_old left_new : Option Bytes) (old new : State) : Type 0 where
  pub kept : bytes_of new ≡ old.pending ++ taken old new
  pub place : new.place ≡ old.place + length new.last
  pub within : new.place + length new.pending ≤ input_limit
  pub took : Consumes left_old left_new (taken old new) ⊎ OneMore (new.place + length new.pending) left_old left_new (taken old new)
  -- once the source told its end, all bytes that were left were taken
  pub ended : old.over ≡ false → new.over ≡ true → IfSome left_old (λ left. length left ≤ length (taken old new))
  pub over : old.over ≡ true → new.over ≡ true

-- `run` stands at the front, or no command can come of the bytes
abbrev pub IsNone : Bytes → Bool → Type 0
IsNone rest over = ((more : Bytes) × (rest ≡ run_byte ∷ more)) ⊎ IsMalformed rest over

-- why no command is given
abbrev pub Stops : Type 0 → State → StreamFault → Type 0
Stops failed new (faults.Malformed at) = (at ≡ new.place) × IsNone new.pending new.over
Stops failed new faults.ReadFault = failed × StartsTaken new.pending × IsWaiting new.pending new.over
Stops failed new faults.TooLong = (new.place + length new.pending ≡ input_limit) × StartsTaken new.pending × IsWaiting new.pending new.over
Stops failed new faults.Memory = ⊤

-- ---- the next command, where it is at hand

-- the stream before and after a step without a read
pub record StepsAtHand (old new : State) : Type 0 where
  pub kept : bytes_of new ≡ old.pending
  pub place : new.place ≡ old.place + length new.last
  pub within : new.place + length new.pending ≤ input_limit
  pub over : new.over ≡ old.over

-- nothing was read or acted on
abbrev pub IsStill : State → State → Type 0
IsStill old new = record new { last = [] } ≡ record old { last = [] }

-- a command at hand is acted on, or nothing is done
abbrev pub FetchesAtHand : State → State → Option Command → Type 0
FetchesAtHand old new (Some command) = StepsAtHand old new × Spells 0 new.last command × IsTaken command
FetchesAtHand old new None = IsStill old new

-- ---- what is written

-- the last lines of a check that was given no command, and its status
abbrev pub Tells : StreamFault → Bytes → ℕ → Type 0
Tells (faults.Malformed at) last status = (last ≡ malformed_line at) × (status ≡ 3)
Tells faults.ReadFault last status = (last ≡ read_fault_line) × (status ≡ 4)
Tells faults.TooLong last status = (last ≡ too_long_line) × (status ≡ 7)
Tells faults.Memory last status = ⊥

abbrev pub IsTelling : StreamFault → Turn → Type 0
IsTelling fault (Lines lines) = ⊥
IsTelling fault (Last lines status) = Tells fault lines.items status

-- an edit is refused for a fault that can be told: its line is written, which is `due`
pub record Refuses (can_be_told : Type 0) (due line : Bytes) (before come_to : Progress) : Type 0 where
  pub told : can_be_told
  pub line_is : line ≡ due
  pub come_to_is : come_to ≡ refusing before

-- what is done for a command
abbrev pub Answers : Progress → Progress → Bytes → Command → Turn → Type 0
Answers old new text command (Lines lines) = Acts old text command lines.items new
Answers old new text command (Last lines status) = Closes old command lines.items status

abbrev pub IsClosing : Progress → Command → Turn → Type 0
IsClosing progress command (Lines lines) = ⊥
IsClosing progress command (Last lines status) = Closes progress command lines.items status

-- the last line where there is no answer yet
abbrev pub IsNotYet : Turn → Type 0
IsNotYet (Lines lines) = ⊥
IsNotYet (Last lines status) = (lines.items ≡ not_yet_line) × (status ≡ 10)

-- ---- a whole turn

-- the lines of one more command, or the last ones
abbrev pub Turns : Type 0 → Progress → Progress → State → State → Turn → Type 0
Turns failed before come_to old new (Lines lines) = (command : Command) × Spells 0 new.last command × Acts before new.last command lines.items come_to
Turns failed before come_to old new (Last lines status) = Ends old.place (new.over ≡ true) failed before (bytes_of new) lines.items status

-- what was taken for it: one byte more exactly where the input is too long
abbrev pub TakesFor : Type 0 → Type 0 → Turn → Type 0
TakesFor exact one_more (Lines lines) = exact
TakesFor exact one_more (Last lines status) = (status ≡ 7 → one_more) × (status ≢ 7 → exact)
