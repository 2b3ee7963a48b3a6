use Rattle.std.proofs.Common.{◌≡◌, ◌++◌, map, drop}
use Rattle.std.specs.List.{flat_map}
use Rattle.py_ast.specs.Bindings.{imported}
use Rattle.py_scopes.proofs.bindings.imports.Given as goal

abbrev pub invariant-loop-source : goal.invariant-loop-source
invariant-loop-source l = l.found ++ map (imported l.place.looped l.place.node) (drop l.source-index l.modules) ≡ l.initial.found ++ map (imported l.place.looped l.place.node) l.modules
