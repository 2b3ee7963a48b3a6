use Rattle.std.proofs.Common.{length}
use Rattle.path_trees.proofs.operations.+graft_steps.Given as goal

abbrev pub decreases-graft_steps : goal.decreases-graft_steps
decreases-graft_steps l = length l.steps.now
