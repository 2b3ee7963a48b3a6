use Rattle.path_trees.proofs.TreeLaws.{join-mono, sub-mono, graft-mono, applied-mono}
use Rattle.path_trees.proofs.laws.operations_are_monotone.Goals as goal

pub returns-clause-join : goal.returns-clause-join
returns-clause-join c = join-mono

pub returns-clause-sub : goal.returns-clause-sub
returns-clause-sub c = sub-mono

pub returns-clause-graft : goal.returns-clause-graft
returns-clause-graft c = graft-mono

pub returns-clause-apply : goal.returns-clause-apply
returns-clause-apply c = applied-mono
