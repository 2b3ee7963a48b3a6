use Rattle.path_trees.proofs.TreeLaws.{sub-join, graft-join, applied-join}
use Rattle.path_trees.proofs.laws.operations_distribute_over_join.Goals as goal

pub returns-clause-sub : goal.returns-clause-sub
returns-clause-sub c = sub-join

pub returns-clause-graft : goal.returns-clause-graft
returns-clause-graft c = graft-join

pub returns-clause-apply : goal.returns-clause-apply
returns-clause-apply c = applied-join
