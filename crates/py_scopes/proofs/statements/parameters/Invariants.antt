use Rattle.std.proofs.Common.{◌≡◌, ◌++◌, filter, drop}
use Rattle.std.specs.List.{flat_map}
use Rattle.py_ast.specs.Uses.{used_in_parameter}
use Rattle.py_scopes.specs.Listed.{is_wanted}
use Rattle.py_scopes.proofs.statements.parameters.Given as goal

abbrev pub invariant-loop-item : goal.invariant-loop-item
invariant-loop-item l = l.found ++ filter (is_wanted l.wanted) (flat_map used_in_parameter (drop l.item-index l.items)) ≡ l.initial.found ++ filter (is_wanted l.wanted) (flat_map used_in_parameter l.items)
