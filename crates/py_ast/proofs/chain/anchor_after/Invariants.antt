use Rattle.std.proofs.Common.{◌≡◌, drop}
use Rattle.py_ast.specs.Trees.{anchor_after}
use Rattle.py_ast.proofs.chain.anchor_after.Given as goal

abbrev pub invariant-loop-step : goal.invariant-loop-step
invariant-loop-step l = anchor_after l.anchor (drop l.step-index l.steps) ≡ anchor_after l.fn.before l.steps
