use Rattle.std.proofs.Common.{◌≡◌, ◌||◌, map, drop}
use Rattle.std.specs.List.{list_any}
use Rattle.rv_names.specs.Keys.{Parts, parts_equal}
use Rattle.pysa_models.specs.Leaves.{is_leaf}
use Rattle.pysa_models.specs.Views.{model_at}
use Rattle.pysa_models.proofs.leaves.known_names.Given as goal

-- the names that were found, and those that are still to be found, are all
abbrev pub invariant-loop-model : goal.invariant-loop-model
invariant-loop-model l = (q : Parts) → (list_any (parts_equal q) l.names.keys || is_leaf l.config (map model_at (drop l.model-index l.models)) q) ≡ is_leaf l.config (map model_at l.models) q
