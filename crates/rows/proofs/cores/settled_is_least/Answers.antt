use Rattle.rows.proofs.CoreSteps.{state_settle}
use Rattle.rows.proofs.cores.settled_is_least.Goals as goal

pub returns : goal.returns
returns c = state_settle
