use Rattle.std.proofs.Common.{◌≡◌, drop}
use Rattle.py_ast.specs.Trees.{node_after}
use Rattle.py_ast.proofs.chain.node_after.Given as goal

abbrev pub invariant-loop-step : goal.invariant-loop-step
invariant-loop-step l = node_after l.node (drop l.step-index l.steps) ≡ node_after l.fn.before l.steps
