use Rattle.path_trees.proofs.TreeParts.{held_map}
use Rattle.path_trees.proofs.trees.Tree.know.Goals as goal

pub returns : goal.returns
returns c = rw (← c.self.view_is) (held_map _ c.self.invariant)
