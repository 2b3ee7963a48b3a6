-- What one turn comes to.
use Rattle.std.proofs.Common.{◌≡◌, ◌+◌, ℕ, Bool, true, false, [], ◌++◌, length, refl, sym, ap, subst, ◌∙◌, arith, inl, inr}
use Rattle.rv_names.specs.Keys.{Bytes}
use Rattle.script.specs.declared.command.Command.{Command}
use Rattle.script.specs.Grammar.{Spells}
use Rattle.script.specs.Stream.{IsUnfinished}
use Rattle.stream.specs.declared.fault.StreamFault.{StreamFault}
use Rattle.stream.specs.declared.fault.StreamFault.TheVariants as faults
use Rattle.stream.specs.State.{State, bytes_of, IsMalformed, IsWaiting}
use Rattle.edit_lines.specs.Lines.{malformed_line, read_fault_line, too_long_line}
use Rattle.check_stream.specs.declared.turn.Turn.{Turn}
use Rattle.check_stream.specs.declared.turn.Turn.TheVariants.{Lines, Last}
use Rattle.check_stream.specs.Acts.{Acts}
use Rattle.check_stream.specs.Ends.{Closes, answered, unanswered, asked, Ends, closed, not_taken, malformed, unread, too_long, IsOpen, StartsTaken, answer_status}
use Rattle.check_stream.specs.Progress.{Progress}
use Rattle.check_stream.specs.Turns.{Answers, IsNone, IsTelling, Stops, TakesFor, Tells, Turns}

-- ---- a command

pub turns_by : (failed : Type 0) (before come_to : Progress) (old new : State) (text : Bytes) (command : Command) (turn : Turn) → text ≡ new.last → Spells 0 new.last command
    → Answers before come_to text command turn → Turns failed before come_to old new turn
turns_by failed before come_to old new text command (Lines lines) text_is spells acts =
    (command, spells, subst (λ (t : Bytes). Acts before t command lines.items come_to) text_is acts)
turns_by failed before come_to old new text command (Last lines status) text_is spells closes =
    closed command new.pending lines.items status (record { text = new.last; spells = spells; parts = refl }) closes

-- no answer has the status of an input that is too long
answer_other : (refused has_issue : Bool) → answer_status refused has_issue ≡ 7 → ⊥
answer_other true has_issue e = omega arith
answer_other false true e = omega arith
answer_other false false e = omega arith

closes_other : (progress : Progress) (command : Command) (last : Bytes) (status : ℕ) → Closes progress command last status → status ≡ 7 → ⊥
closes_other progress command last status (answered report is) e = answer_other progress.refused report.has_issues e
closes_other progress command last status (unanswered is) e = omega arith
closes_other progress command last status (asked session query) e = omega arith

pub takes_by : (exact one_more : Type 0) (before come_to : Progress) (text : Bytes) (command : Command) (turn : Turn) → exact → Answers before come_to text command turn → TakesFor exact one_more turn
takes_by exact one_more before come_to text command (Lines lines) is acts = is
takes_by exact one_more before come_to text command (Last lines status) is closes = (λ e. absurd (closes_other before command lines.items status closes e), λ other. is)

-- ---- no command

told_end : (place : ℕ) (over failed : Type 0) (before : Progress) (rest due last : Bytes) (wanted status : ℕ) → last ≡ due → status ≡ wanted → Ends place over failed before rest due wanted → Ends place over failed before rest last status
told_end place over failed before rest due last wanted status last_is status_is ends =
    subst (λ (l : Bytes). Ends place over failed before rest l status) (sym last_is) (subst (λ (s : ℕ). Ends place over failed before rest due s) (sym status_is) ends)

over_by : (rest : Bytes) (over : Bool) → IsMalformed rest over → IsUnfinished 0 rest → over ≡ true
over_by rest true none unfinished = refl
over_by rest false none unfinished = absurd (none.dead refl unfinished)

none_ends : (place : ℕ) (failed : Type 0) (before : Progress) (rest : Bytes) (over : Bool) → IsNone rest over → Ends place (over ≡ true) failed before rest (malformed_line place) 3
none_ends place failed before rest over (inl run) = not_taken run.0 run.1
none_ends place failed before rest over (inr none) = malformed none.none (over_by rest over none)

open_by : (rest : Bytes) (over : Bool) → StartsTaken rest → IsWaiting rest over → IsOpen rest
open_by rest over starts waits = record { starts = starts; none = waits.none; unfinished = waits.unfinished }

stops_end : (failed : Type 0) (before : Progress) (new : State) (fault : StreamFault) (last : Bytes) (status : ℕ) → Stops failed new fault → Tells fault last status
    → Ends new.place (new.over ≡ true) failed before new.pending last status
stops_end failed before new (faults.Malformed at) last status stops told =
    told_end new.place (new.over ≡ true) failed before new.pending (malformed_line new.place) last 3 status (told.0 ∙ ap malformed_line stops.0) told.1 (none_ends new.place failed before new.pending new.over stops.1)
stops_end failed before new faults.ReadFault last status stops told =
    told_end new.place (new.over ≡ true) failed before new.pending read_fault_line last 4 status told.0 told.1 (unread stops.0 (open_by new.pending new.over stops.1 stops.2))
stops_end failed before new faults.TooLong last status stops told =
    told_end new.place (new.over ≡ true) failed before new.pending too_long_line last 7 status told.0 told.1 (too_long stops.0 (open_by new.pending new.over stops.1 stops.2))
stops_end failed before new faults.Memory last status stops told = absurd told

-- where nothing was acted on
pub stops_turn : (failed : Type 0) (before : Progress) (old new : State) (fault : StreamFault) (turn : Turn) → new.place ≡ old.place + length new.last → new.last ≡ [] → Stops failed new fault → IsTelling fault turn
    → Turns failed before before old new turn
stops_turn failed before old new fault (Lines lines) place none stops told = absurd told
stops_turn failed before old new fault (Last lines status) place none stops told =
    let at : new.place ≡ old.place = omega (arith, place, ap length none) in
    subst (λ (p : ℕ). Ends p (new.over ≡ true) failed before (bytes_of new) lines.items status) at
    (subst (λ (l : Bytes). Ends new.place (new.over ≡ true) failed before (l ++ new.pending) lines.items status) (sym none) (stops_end failed before new fault lines.items status stops told))
