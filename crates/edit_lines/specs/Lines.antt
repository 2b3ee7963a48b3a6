-- What is printed of the commands of a stream, line by line, to the byte.
use Rattle.std.specs.Prelude.{ℕ, [], ◌++◌, codes, decimal}
use Rattle.rv_names.specs.Keys.{Bytes}
use Rattle.project.specs.declared.faults.Which.{Which}
use Rattle.project.specs.declared.faults.Which.TheVariants.{Files, Text, Callables}
use Rattle.journal.specs.declared.faults.EditFault.{EditFault}
use Rattle.journal.specs.declared.faults.EditFault.TheVariants.{JournalFull, NotThere, ProjectFull, Memory}
use Rattle.front.specs.declared.faults.ReadFault.{ReadFault}
use Rattle.front.specs.Printing.{fault_text}

abbrev pub line_end : Bytes
line_end = codes "\n"

-- ---- what an edit came to

-- it was kept, and has this number
abbrev pub kept_line : ℕ → Bytes
kept_line number = codes "edit " ++ decimal number ++ line_end

-- its file was refused, with the place and the kind of the fault
abbrev pub misread_line : Bytes → ReadFault → Bytes
misread_line path fault = codes "refused " ++ path ++ codes ":" ++ fault_text fault ++ line_end

-- there is no room for it
abbrev pub full_line : Bytes → Bytes
full_line name = codes "full " ++ name ++ line_end

-- the file that it drops is not live
abbrev pub absent_line : Bytes → Bytes
absent_line path = codes "absent " ++ path ++ line_end

abbrev pub which_name : Which → Bytes
which_name Files = codes "files"
which_name Text = codes "text"
which_name Callables = codes "callables"

-- the journal refused it; want of memory is printed nowhere
abbrev pub fault_line : Bytes → EditFault → Bytes
fault_line path JournalFull = full_line (codes "journal")
fault_line path (NotThere number) = absent_line path
fault_line path (ProjectFull which) = full_line (which_name which)
fault_line path Memory = []

-- ---- the other lines

-- so many edits are kept
abbrev pub sync_line : ℕ → Bytes
sync_line number = codes "sync " ++ decimal number ++ line_end

-- from this place on no command can come of the input
abbrev pub malformed_line : ℕ → Bytes
malformed_line at = codes "malformed " ++ decimal at ++ line_end

-- a question that has no answer yet
abbrev pub not_yet_line : Bytes
not_yet_line = codes "not yet\n"

-- the source failed
abbrev pub read_fault_line : Bytes
read_fault_line = codes "read fault\n"

-- more bytes came than an input may have
abbrev pub too_long_line : Bytes
too_long_line = codes "input too long\n"
