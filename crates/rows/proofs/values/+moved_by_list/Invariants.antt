use Rattle.std.proofs.Common.{length}
use Rattle.rows.proofs.values.+moved_by_list.Given as goal

abbrev pub decreases-moved_by_list : goal.decreases-moved_by_list
decreases-moved_by_list l = length l.moves.now
