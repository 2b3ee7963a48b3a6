use Rattle.taint_model.proofs.PutFacts.{put_here, put_there}
use Rattle.taint_model.proofs.PutJoins.{at_joined}
use Rattle.taint_model.proofs.laws.puts_are_read_as_put.Goals as goal

pub returns-clause-here : goal.returns-clause-here
returns-clause-here c = put_here

pub returns-clause-elsewhere : goal.returns-clause-elsewhere
returns-clause-elsewhere c = put_there

pub returns-clause-join : goal.returns-clause-join
returns-clause-join c = at_joined
