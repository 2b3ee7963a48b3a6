use Rattle.std.proofs.Common.{length}
use Rattle.path_trees.proofs.paths.+meet.Given as goal

abbrev pub decreases-meet : goal.decreases-meet
decreases-meet l = length l.a.now
