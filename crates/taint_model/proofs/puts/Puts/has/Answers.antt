use Rattle.std.proofs.Common.{subst, sym}
use Rattle.path_trees.specs.Trees.{Below}
use Rattle.taint_model.specs.Puts.{tree_of}
use Rattle.taint_model.proofs.TreeFacts.{below_empty, below_of}
use Rattle.taint_model.proofs.puts.Puts.has.Goals as goal

pub returns-in-None : goal.returns-in-None
returns-in-None c = (
  λ h. subst (λ o. Below c.args.tree.now (tree_of o)) c.in-None.ensures (below_of (c.is_empty.ensures.0 h)),
  λ b. c.is_empty.ensures.1 (below_empty c.args.tree.now (subst (λ o. Below c.args.tree.now (tree_of o)) (sym c.in-None.ensures) b)),
)
