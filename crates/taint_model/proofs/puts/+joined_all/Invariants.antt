use Rattle.std.proofs.Common.{length}
use Rattle.taint_model.proofs.puts.+joined_all.Given as goal

abbrev pub decreases-joined_all : goal.decreases-joined_all
decreases-joined_all l = length l.trees.now
