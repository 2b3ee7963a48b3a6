use Rattle.std.proofs.Common.{◌≡◌, drop}
use Rattle.path_trees.specs.Merging.{covered}
use Rattle.path_trees.proofs.merging.covered.Given as goal

abbrev pub invariant-loop-y : goal.invariant-loop-y
invariant-loop-y l = covered l.xs (drop l.y-index l.right) ≡ covered l.left l.right
