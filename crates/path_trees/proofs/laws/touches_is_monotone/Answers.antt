use Rattle.path_trees.proofs.TreeLaws.{touch-mono}
use Rattle.path_trees.proofs.laws.touches_is_monotone.Goals as goal

pub returns : goal.returns
returns c = touch-mono
