use Rattle.rows.proofs.CoreSteps.{state_start}
use Rattle.rows.proofs.cores.the_start_has_the_facts.Goals as goal

pub returns : goal.returns
returns c = state_start
