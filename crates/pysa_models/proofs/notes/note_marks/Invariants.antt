use Rattle.std.proofs.Common.{◌≡◌, ◌++◌, drop}
use Rattle.pysa_models.specs.Notes.{notes_in}
use Rattle.pysa_models.proofs.notes.note_marks.Given as goal

-- what was noted, and what is still to be noted, is all
abbrev pub invariant-loop-mark : goal.invariant-loop-mark
invariant-loop-mark l = l.notes.items ++ notes_in l.config l.path (drop l.mark-index l.marks) ≡ l.initial.notes.items ++ notes_in l.config l.path l.marks
