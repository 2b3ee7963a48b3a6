use Rattle.std.proofs.Common.{length}
use Rattle.path_trees.proofs.paths.+order.Given as goal

abbrev pub decreases-order : goal.decreases-order
decreases-order l = length l.a.now
