use Rattle.std.proofs.Common.{◌↔◌, drop}
use Rattle.taint_model.specs.Lists.{TreesBelow}
use Rattle.taint_model.proofs.lists.all_le.Given as goal

abbrev pub invariant-loop-tree : goal.invariant-loop-tree
invariant-loop-tree l = TreesBelow (drop l.tree-index l.left) l.rest ↔ TreesBelow l.left l.right
