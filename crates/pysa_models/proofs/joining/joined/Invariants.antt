use Rattle.std.proofs.Common.{◌≡◌, None, map, drop}
use Rattle.indexmap.specs.IndexMap.{get}
use Rattle.rv_names.specs.Keys.{Parts, parts_equal}
use Rattle.pysa_models.specs.Views.{model_at}
use Rattle.pysa_models.proofs.Together.{joined_all}
use Rattle.pysa_models.proofs.joining.joined.Given as goal

-- what was joined, with what is still to be joined, is all
abbrev pub invariant-loop-model : goal.invariant-loop-model
invariant-loop-model l = (q : Parts) → joined_all l.config l.leaves q (get parts_equal l.names q) (map model_at (drop l.model-index l.models)) ≡ joined_all l.config l.leaves q None (map model_at l.models)
