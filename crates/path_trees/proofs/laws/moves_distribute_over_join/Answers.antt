use Rattle.path_trees.proofs.TreeLaws.{moved-join}
use Rattle.path_trees.proofs.laws.moves_distribute_over_join.Goals as goal

pub returns : goal.returns
returns c = moved-join
