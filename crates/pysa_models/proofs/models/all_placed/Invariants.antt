use Rattle.std.proofs.Common.{◌≡◌, ◌++◌, map, drop}
use Rattle.pysa_models.specs.Models.{all_models}
use Rattle.pysa_models.specs.Views.{model_at}
use Rattle.pysa_models.proofs.models.all_placed.Given as goal

-- what was added, and what is still to be added, is all
abbrev pub invariant-loop-path : goal.invariant-loop-path
invariant-loop-path l = map model_at l.models.items ++ all_models (drop l.path-index l.files) ≡ all_models l.files
