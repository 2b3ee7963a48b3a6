use Rattle.std.proofs.Common.{◌≡◌, ◌+◌, ◌++◌, drop, length}
use Rattle.taint_model.specs.Lists.{joined_trees}
use Rattle.taint_model.proofs.lists.joins.Given as goal

abbrev pub invariant-loop-tree : goal.invariant-loop-tree
invariant-loop-tree l = record { all : l.joins.items ++ joined_trees (drop l.tree-index l.left) l.rest ≡ joined_trees l.left l.right; left : length l.rest + l.tree-index ≡ length l.left }
