use Rattle.path_trees.proofs.Finite.{below_antisymm}
use Rattle.path_trees.proofs.laws.order_is_partial.Goals as goal

pub returns-clause-antisymmetric : goal.returns-clause-antisymmetric
returns-clause-antisymmetric c = below_antisymm
