use Rattle.path_trees.proofs.TreeParts.{empty_map}
use Rattle.path_trees.proofs.trees.Tree.is_empty.Goals as goal

pub returns : goal.returns
returns c = let e = rw c.deref-entries.ensures.value at c.is_empty.ensures in rw (← c.self.view_is) (empty_map _ _ e c.self.invariant)
