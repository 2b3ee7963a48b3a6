use Rattle.std.proofs.Common.{◌≡◌, ◌++◌, take}
use Rattle.path_trees.proofs.paths.push_copies.Given as goal

abbrev pub invariant-loop-step : goal.invariant-loop-step
invariant-loop-step l = l.to.items ≡ l.fn.to.items ++ take l.step-index l.steps
