use Rattle.std.proofs.Common.{◌≡◌, map, filter, drop}
use Rattle.std.specs.List.{fold}
use Rattle.py_ast.specs.ScopeFaults.{binds_again, twice, bound_twice, sooner}
use Rattle.py_scopes.proofs.faults.bound_twice.Given as goal

abbrev pub invariant-loop-binding : goal.invariant-loop-binding
invariant-loop-binding l =
    fold sooner l.found (map twice (filter (binds_again l.fn.scope) (drop l.binding-index l.bindings)))
    ≡ fold sooner l.initial.found (map twice (filter (binds_again l.fn.scope) l.bindings))
