use Rattle.std.proofs.Common.{◌∙◌, arith}
use Rattle.path_trees.proofs.Covers.{covered_end}
use Rattle.path_trees.proofs.merging.covered.Goals as goal

pub returns : goal.returns
returns c = c.is_empty.ensures ∙ covered_end c.loop-y.xs.now c.args.right.now c.loop-y.y-index (omega arith) ∙ c.loop-y.invariant
