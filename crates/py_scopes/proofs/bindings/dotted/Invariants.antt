use Rattle.std.proofs.Common.{◌≡◌, ◌++◌, map, drop}
use Rattle.std.specs.List.{flat_map}
use Rattle.py_ast.specs.Bindings.{dotted_names}
use Rattle.py_scopes.proofs.bindings.dotted.Given as goal

abbrev pub invariant-loop-other : goal.invariant-loop-other
invariant-loop-other l = l.parts.items ++ map (λ n. n.name) (drop l.other-index l.other-items) ≡ dotted_names l.fn.dotted
