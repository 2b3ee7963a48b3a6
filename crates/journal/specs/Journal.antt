-- The journal of a project: its live files, how many edits were kept, and the bytes of all texts that were put.
use Rattle.std.specs.Prelude.{◌≡◌, ℕ, ◌+◌, ◌≤◌, nat_le, nat_lt, not, ◌||◌, Bool, false, if◌then◌else◌, Option, Some, None, option_map}
use Rattle.std.specs.Arc.{arc_value}
use Rattle.std.specs.FinMap.{contains_key, remove}
use Rattle.rv_names.specs.Keys.{Bytes}
use Rattle.project.specs.declared.faults.Which.{Which}
use Rattle.project.specs.declared.faults.Which.TheVariants.{Callables}
use Rattle.project.specs.Files.{FileMap, first_over, with_file}
use Rattle.project.specs.Items.{Fits}
use Rattle.project.specs.Limits.{callables_limit, edits_limit, kept_limit}
use Rattle.project.specs.Modules.{callables_in}
use Rattle.journal.specs.declared.edit.ReadEdit.{ReadEdit}
use Rattle.journal.specs.declared.edit.ReadEdit.TheVariants.{Put, Drop}
use Rattle.journal.specs.declared.faults.EditFault.{EditFault}
use Rattle.journal.specs.declared.faults.EditFault.TheVariants.{JournalFull, NotThere, ProjectFull}

pub record JournalParts : Type 0 where
  pub files : FileMap
  pub number : ℕ
  pub kept : ℕ

-- ---- an edit

-- what is put fits its path
abbrev pub FitsEdit : ReadEdit → Type 0
FitsEdit (Put path item len) = Fits path (arc_value item)
FitsEdit (Drop path) = Unit {0}

-- the bytes that the journal keeps of it
abbrev pub kept_by : ReadEdit → ℕ
kept_by (Put path item len) = len
kept_by (Drop path) = 0

abbrev pub edited : FileMap → ReadEdit → FileMap
edited files (Put path item len) = with_file files path (arc_value item) len
edited files (Drop path) = remove files path

abbrev pub after : JournalParts → ReadEdit → JournalParts
after journal edit = record { files = edited journal.files edit; number = journal.number + 1; kept = journal.kept + kept_by edit }

-- ---- why an edit is refused

abbrev pub is_full : JournalParts → ℕ → Bool
is_full journal more = nat_le edits_limit journal.number || nat_lt kept_limit (journal.kept + more)

-- a file is dropped that isn't live
abbrev pub is_absent : FileMap → ReadEdit → Bool
is_absent files (Put path item len) = false
is_absent files (Drop path) = not (contains_key files path)

abbrev pub many_callables : FileMap → Option Which
many_callables files = if nat_lt callables_limit (callables_in files) then Some Callables else None

abbrev pub or_else : Option Which → Option Which → Option Which
or_else (Some which) other = Some which
or_else None other = other

-- the first of the three counts of a project that is past its limit
abbrev pub over : FileMap → Option Which
over files = or_else (first_over files) (many_callables files)

-- the first cause for which an edit is refused
abbrev pub edit_fault : JournalParts → ReadEdit → Option EditFault
edit_fault journal edit =
    if is_full journal (kept_by edit) then Some JournalFull else (
    if is_absent journal.files edit then Some (NotThere journal.number) else option_map ProjectFull (over (edited journal.files edit)))

-- what holds of every journal
pub record IsJournal (files : FileMap) (number kept : ℕ) : Type 0 where
  pub edits : number ≤ edits_limit
  pub text : kept ≤ kept_limit
  pub callables : callables_in files ≤ callables_limit
