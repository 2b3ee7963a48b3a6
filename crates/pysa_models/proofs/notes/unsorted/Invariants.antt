use Rattle.std.proofs.Common.{◌≡◌, ◌++◌, map, drop}
use Rattle.pysa_models.specs.Notes.{all_notes}
use Rattle.pysa_models.specs.Views.{model_at}
use Rattle.pysa_models.proofs.notes.unsorted.Given as goal

-- what was noted, and what is still to be noted, is all
abbrev pub invariant-loop-model : goal.invariant-loop-model
invariant-loop-model l = l.notes.items ++ all_notes l.config (map model_at (drop l.model-index l.models)) ≡ all_notes l.config (map model_at l.models)
