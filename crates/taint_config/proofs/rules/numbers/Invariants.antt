use Rattle.std.proofs.Common.{◌≡◌, drop, map, []}
use Rattle.serde_json.specs.View.{view}
use Rattle.taint_config.specs.Reading.{fold_read, push_step, number_read}
use Rattle.taint_config.proofs.rules.numbers.Given as goal

-- what was read, and what is still to be read, is the whole
abbrev pub invariant-loop-item : goal.invariant-loop-item
invariant-loop-item l = fold_read (push_step (number_read l.first l.names.keys)) l.numbers.items (map view (drop l.item-index l.items)) ≡ fold_read (push_step (number_read l.first l.names.keys)) [] (map view l.items)
