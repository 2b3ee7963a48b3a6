use Rattle.std.proofs.Common.{◌≡◌, ◌≤◌, take}
use Rattle.project.specs.Callables.{functions}
use Rattle.project.proofs.callables.functions.Given as goal

abbrev pub invariant-loop-stmt : goal.invariant-loop-stmt
invariant-loop-stmt l = (l.count ≡ functions (take l.stmt-index l.body)) × (l.count ≤ l.stmt-index)
