use Rattle.path_trees.proofs.TreeLaws.{join_first, join_second, join_least}
use Rattle.path_trees.proofs.laws.join_is_least_upper_bound.Goals as goal

pub returns-clause-first : goal.returns-clause-first
returns-clause-first c = join_first

pub returns-clause-second : goal.returns-clause-second
returns-clause-second c = join_second

pub returns-clause-least : goal.returns-clause-least
returns-clause-least c = join_least
