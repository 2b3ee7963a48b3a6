use Rattle.std.proofs.Common.{◌≡◌, ◌++◌, map, drop}
use Rattle.std.specs.List.{flat_map}
use Rattle.py_ast.specs.Bindings.{all_bound, bound_in, bound_in_branch}
use Rattle.py_scopes.proofs.bindings.+bindings.Given as goal

abbrev pub invariant-block-loop-stmt : goal.invariant-block-loop-stmt
invariant-block-loop-stmt l = l.found ++ all_bound l.looped (map bound_in (drop l.stmt-index l.stmts)) ≡ l.initial.found ++ all_bound l.looped (map bound_in l.stmts)

abbrev pub invariant-branches-loop-item : goal.invariant-branches-loop-item
invariant-branches-loop-item l = l.found ++ all_bound l.looped (map bound_in_branch (drop l.item-index l.items)) ≡ l.initial.found ++ all_bound l.looped (map bound_in_branch l.items)
