use Rattle.std.proofs.Common.{◌≡◌, ◌++◌, filter, drop}
use Rattle.py_ast.specs.Owned.{owns}
use Rattle.py_scopes.proofs.owned.locals_owned.Given as goal

abbrev pub invariant-loop-binding : goal.invariant-loop-binding
invariant-loop-binding l =
    l.found ++ filter (owns l.fn.locals l.fn.usage) (drop l.binding-index l.bindings)
    ≡ l.initial.found ++ filter (owns l.fn.locals l.fn.usage) l.bindings
