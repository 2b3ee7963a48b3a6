use Rattle.std.proofs.Common.{length}
use Rattle.path_trees.proofs.operations.+sub_steps.Given as goal

abbrev pub decreases-sub_steps : goal.decreases-sub_steps
decreases-sub_steps l = length l.steps.now
