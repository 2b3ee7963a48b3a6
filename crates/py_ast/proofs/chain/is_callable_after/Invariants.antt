use Rattle.std.proofs.Common.{◌≡◌, drop}
use Rattle.py_ast.specs.Trees.{callable_after}
use Rattle.py_ast.proofs.chain.is_callable_after.Given as goal

abbrev pub invariant-loop-step : goal.invariant-loop-step
invariant-loop-step l = callable_after l.callable (drop l.step-index l.steps) ≡ callable_after l.fn.before l.steps
