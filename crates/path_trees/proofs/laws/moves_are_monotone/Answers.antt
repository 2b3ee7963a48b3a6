use Rattle.path_trees.proofs.TreeLaws.{moved-mono}
use Rattle.path_trees.proofs.laws.moves_are_monotone.Goals as goal

pub returns : goal.returns
returns c = moved-mono
