use Rattle.std.proofs.Common.{◌≡◌, ◌++◌, map, drop}
use Rattle.std.specs.List.{flat_map}
use Rattle.py_ast.specs.Bindings.{imported_name}
use Rattle.py_scopes.proofs.bindings.imported_names.Given as goal

abbrev pub invariant-loop-item : goal.invariant-loop-item
invariant-loop-item l = l.found ++ map (imported_name l.place.looped l.place.node l.source) (drop l.item-index l.items) ≡ l.initial.found ++ map (imported_name l.place.looped l.place.node l.source) l.items
