use Rattle.std.proofs.Common.{◌≡◌, drop, map, []}
use Rattle.serde_json.specs.View.{view}
use Rattle.taint_config.specs.Reading.{fold_read, push_step, feature_read}
use Rattle.taint_config.proofs.features.features_listed.Given as goal

-- what was read, and what is still to be read, is the whole
abbrev pub invariant-loop-item : goal.invariant-loop-item
invariant-loop-item l = fold_read (push_step feature_read) l.features.items (map view (drop l.item-index l.item-items)) ≡ fold_read (push_step feature_read) [] (map view l.item-items)
