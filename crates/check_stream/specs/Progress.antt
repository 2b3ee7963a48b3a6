-- What a check has come to: the journal, and whether an edit was refused.
use Rattle.std.specs.Prelude.{Bool, true, false}
use Rattle.std.specs.FinMap.{empty}
use Rattle.journal.specs.declared.edit.ReadEdit.{ReadEdit}
use Rattle.journal.specs.Journal.{JournalParts, after}

pub record Progress : Type 0 where
  pub journal : JournalParts
  pub refused : Bool

-- no files, no edits, nothing refused
abbrev pub at_first : Progress
at_first = record { journal = record { files = empty; number = 0; kept = 0 }; refused = false }

-- once an edit was kept
abbrev pub keeping : Progress → ReadEdit → Progress
keeping before edit = record { journal = after before.journal edit; refused = before.refused }

-- once one was refused
abbrev pub refusing : Progress → Progress
refusing before = record { journal = before.journal; refused = true }
