use Rattle.std.proofs.Common.{take}
use Rattle.taint_model.specs.Lists.{AreTreesHeld}
use Rattle.taint_model.proofs.lists.know_all.Given as goal

abbrev pub invariant-loop-tree : goal.invariant-loop-tree
invariant-loop-tree l = AreTreesHeld (take l.tree-index l.trees)
