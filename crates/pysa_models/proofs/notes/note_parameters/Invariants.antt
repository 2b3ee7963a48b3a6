use Rattle.std.proofs.Common.{◌≡◌, ◌++◌, drop}
use Rattle.std.specs.List.{flat_map}
use Rattle.pysa_models.specs.Notes.{notes_in}
use Rattle.pysa_models.proofs.notes.note_parameters.Given as goal

-- what was noted, and what is still to be noted, is all
abbrev pub invariant-loop-param : goal.invariant-loop-param
invariant-loop-param l = l.notes.items ++ notes_in l.config l.path (flat_map (λ p. p.marks) (drop l.param-index l.params)) ≡ l.initial.notes.items ++ notes_in l.config l.path (flat_map (λ p. p.marks) l.params)
