use Rattle.std.proofs.Common.{◌≡◌, ◌++◌, map, drop}
use Rattle.std.specs.List.{flat_map}
use Rattle.py_ast.specs.Bindings.{bound_all}
use Rattle.py_ast.specs.declared.binding.BindingKind.TheVariants as kinds
use Rattle.py_scopes.proofs.bindings.loop_names.Given as goal

abbrev pub invariant-loop-item : goal.invariant-loop-item
invariant-loop-item l = l.found ++ bound_all l.place.looped l.place.node kinds.Loop (drop l.item-index l.names) ≡ l.initial.found ++ bound_all l.place.looped l.place.node kinds.Loop l.names
