use Rattle.std.proofs.Common.{◌≡◌, ◌||◌, drop}
use Rattle.std.specs.List.{fold}
use Rattle.py_ast.specs.ScopeFaults.{variable_calls, sooner}
use Rattle.py_scopes.specs.Names.{is_named, is_variable_of}
use Rattle.py_scopes.proofs.faults.variable_calls.Given as goal

abbrev pub invariant-loop-used : goal.invariant-loop-used
invariant-loop-used l =
    fold sooner l.found (variable_calls (λ n. is_named n l.locals || is_variable_of n l.globals) (drop l.used-index l.uses))
    ≡ fold sooner l.initial.found (variable_calls (λ n. is_named n l.locals || is_variable_of n l.globals) l.uses)
