use Rattle.std.proofs.Common.{sym, ◌∙◌}
use Rattle.path_trees.proofs.Covers.{covered_below, below_covered}
use Rattle.path_trees.proofs.TreeParts.{rises}
use Rattle.path_trees.proofs.trees.Tree.le.Goals as goal

pub returns : goal.returns
returns c =
    let e = rw (c.deref.ensures.value, c.deref-2.ensures.value) at c.covered.ensures in
    let r = rises c.self.invariant in
    let q = rises c.other.invariant in
    rw (← c.self.view_is, ← c.other.view_is) (λ h. covered_below _ _ r q (sym e ∙ h), λ b. e ∙ below_covered _ _ r q b)
