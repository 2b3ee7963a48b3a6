use Rattle.std.proofs.Common.{◌≡◌, ◌+◌, ◌++◌, length}
use Rattle.path_trees.specs.Merging.{merge}
use Rattle.path_trees.proofs.merging.merged.Given as goal

abbrev pub invariant-loop-out : goal.invariant-loop-out
invariant-loop-out l = l.out.items ++ merge l.xs l.ys ≡ merge l.left l.right

abbrev pub decreases-loop-out : goal.decreases-loop-out
decreases-loop-out l = length l.xs + length l.ys
