use Rattle.taint_model.proofs.ListFacts.{held_more}
use Rattle.taint_model.proofs.lists.know_all.Goals as goal

pub loop-tree-preserved : goal.loop-tree-preserved
loop-tree-preserved c = held_more c.args.trees.now c.loop-tree.tree-index c.tree-item.result c.loop-tree-test.true c.tree-item.is c.loop-tree.invariant c.know.ensures
