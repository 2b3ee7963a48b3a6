use Rattle.std.proofs.Common.{◌≡◌, drop}
use Rattle.py_ast.specs.Statements.{chain_target}
use Rattle.py_ast.proofs.target.chain_target.Given as goal

abbrev pub invariant-loop-step : goal.invariant-loop-step
invariant-loop-step l = chain_target l.target (drop l.step-index l.steps) ≡ chain_target l.fn.before l.steps
