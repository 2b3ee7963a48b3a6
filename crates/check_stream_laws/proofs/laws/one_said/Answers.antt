use Rattle.check_stream.specs.Progress.{at_first}
use Rattle.check_stream_laws.proofs.Sayings.{agree-itself, agree-same, same-said}
use Rattle.check_stream_laws.proofs.laws.one_said.Goals as goal

pub returns-clause-lines : goal.returns-clause-lines
returns-clause-lines c = λ cs ts a b p q x y. (same-said at_first at_first cs ts a b p q (agree-itself at_first) x y).0

pub returns-clause-progress : goal.returns-clause-progress
returns-clause-progress c = λ cs ts a b p q x y. agree-same p q ((same-said at_first at_first cs ts a b p q (agree-itself at_first) x y).1)
