-- What is written for the commands of a check, and what they come to.
use Rattle.std.specs.Prelude.{◌≡◌, ◌+◌, List, [], ◌∷◌, ◌++◌, length, slice_range, Some, None}
use Rattle.std.specs.Arc.{arc_value}
use Rattle.std.specs.Global.{Global}
use Rattle.std.specs.declared.sync.Arc.{Arc}
use Rattle.rv_names.specs.Keys.{Bytes}
use Rattle.script.specs.declared.command.Command.{Command}
use Rattle.script.specs.declared.command.Command.TheVariants as commands
use Rattle.project.specs.declared.item.Item.{Item}
use Rattle.journal.specs.declared.edit.ReadEdit.{ReadEdit}
use Rattle.journal.specs.declared.edit.ReadEdit.TheVariants as edits
use Rattle.journal.specs.declared.faults.EditFault.{EditFault}
use Rattle.journal.specs.Journal.{edit_fault}
use Rattle.front.specs.declared.faults.ReadFault.{ReadFault}
use Rattle.front.specs.Reading.{Accepted, Refused}
use Rattle.edit_lines.specs.Lines.{kept_line, misread_line, fault_line, sync_line}
use Rattle.check_stream.specs.Progress.{Progress, keeping, refusing}

-- where an edit is done
abbrev pub path_of : ReadEdit → Bytes
path_of (edits.Put path item len) = path
path_of (edits.Drop path) = path

-- the line of an edit whose file was read, and what it comes to: it is kept, or refused with its first cause
pub data Edits (before : Progress) (edit : ReadEdit) : Bytes → Progress → Type 0 where
  kept : edit_fault before.journal edit ≡ None → Edits before edit (kept_line (before.journal.number + 1)) (keeping before edit)
  refused : (fault : EditFault) → edit_fault before.journal edit ≡ Some fault → Edits before edit (fault_line (path_of edit) fault) (refusing before)

-- the same of a file that is put at a path: it is read first, and is refused where it is no file that may stand there
pub data Puts (before : Progress) (path file : Bytes) : Bytes → Progress → Type 0 where
  misread : (fault : ReadFault) → Refused path file fault → Puts before path file (misread_line path fault) (refusing before)
  read : (item : Arc Item Global) (line : Bytes) (come_to : Progress) → Accepted path file (arc_value item) → Edits before (edits.Put path item (length file)) line come_to → Puts before path file line come_to

-- the same of a command, whose own bytes are `text`. A question and the end are answered with the last lines (Ends.antt).
abbrev pub Acts : Progress → Bytes → Command → Bytes → Progress → Type 0
Acts before text (commands.Put path from len) line come_to = Puts before path (slice_range text from (from + len)) line come_to
Acts before text (commands.Drop path) line come_to = Edits before (edits.Drop path) line come_to
Acts before text commands.Sync line come_to = (line ≡ sync_line before.journal.number) × (come_to ≡ before)
Acts before text (commands.Ask session query) line come_to = ⊥
Acts before text (commands.Run fuel calls draws) line come_to = ⊥
Acts before text commands.End line come_to = ⊥

-- the same of commands with these texts, one after the other
abbrev pub Said : Progress → List Command → List Bytes → Bytes → Progress → Type 0
Said before [] [] lines come_to = (lines ≡ []) × (come_to ≡ before)
Said before (command ∷ commands) (text ∷ texts) lines come_to =
    (line : Bytes) × (then : Progress) × (more : Bytes) × Acts before text command line then × Said then commands texts more come_to × (lines ≡ line ++ more)
Said before (command ∷ commands) [] lines come_to = ⊥
Said before [] (text ∷ texts) lines come_to = ⊥
