use Rattle.std.proofs.Common.{◌≡◌, drop, map, []}
use Rattle.serde_json.specs.View.{view}
use Rattle.taint_config.specs.Reading.{fold_read, rule_step}
use Rattle.taint_config.proofs.rules.rules.Given as goal

-- what was read, and what is still to be read, is the whole
abbrev pub invariant-loop-item : goal.invariant-loop-item
invariant-loop-item l = fold_read (rule_step l.from.keys l.to.keys) (l.rules.items, l.codes.keys) (map view (drop l.item-index l.item-items)) ≡ fold_read (rule_step l.from.keys l.to.keys) ([], []) (map view l.item-items)
