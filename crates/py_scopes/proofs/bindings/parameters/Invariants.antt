use Rattle.std.proofs.Common.{◌≡◌, ◌++◌, map, drop}
use Rattle.std.specs.List.{flat_map}
use Rattle.py_ast.specs.Bindings.{parameter}
use Rattle.py_scopes.proofs.bindings.parameters.Given as goal

abbrev pub invariant-loop-item : goal.invariant-loop-item
invariant-loop-item l = l.found ++ map parameter (drop l.item-index l.items) ≡ l.initial.found ++ map parameter l.items
