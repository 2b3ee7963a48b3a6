use Rattle.std.proofs.Common.{length}
use Rattle.path_trees.proofs.paths.+know.Given as goal

abbrev pub decreases-know : goal.decreases-know
decreases-know l = length l.steps.now
