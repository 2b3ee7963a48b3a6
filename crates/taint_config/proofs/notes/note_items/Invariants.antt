use Rattle.std.proofs.Common.{◌≡◌, ◌++◌, drop, map}
use Rattle.std.specs.List.{flat_map}
use Rattle.serde_json.specs.View.{view}
use Rattle.taint_config.specs.Config.{ignored}
use Rattle.taint_config.specs.Shapes.{known_keys}
use Rattle.taint_config.proofs.notes.note_items.Given as goal

-- what was noted, and what is still to be noted, is all
abbrev pub invariant-loop-item : goal.invariant-loop-item
invariant-loop-item l =
    l.notes.items ++ flat_map (ignored (known_keys l.shape)) (map view (drop l.item-index l.items))
    ≡ l.initial.notes.items ++ flat_map (ignored (known_keys l.shape)) (map view l.items)
