use Rattle.std.proofs.Common.{ap, ◌∙◌}
use Rattle.path_trees.proofs.Merges.{map_of, map_merge}
use Rattle.path_trees.proofs.TreeParts.{rises, tree_merge}
use Rattle.path_trees.proofs.trees.Tree.join.Goals as goal

pub invariant_of-result : goal.invariant_of-result
invariant_of-result c = rw (c.in_ok-entries.ensures, c.deref.ensures.value, c.deref-2.ensures.value) (tree_merge _ _ c.self.invariant c.other.invariant)

pub returns : goal.returns
returns c =
    let e = rw (c.deref.ensures.value, c.deref-2.ensures.value) at c.in_ok-entries.ensures in
    rw (← c.self.view_is, ← c.other.view_is) (ap map_of e ∙ map_merge _ _ (rises c.self.invariant) (rises c.other.invariant))
