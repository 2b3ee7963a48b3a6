use Rattle.rows.proofs.CoreSteps.{step_keeps}
use Rattle.rows.proofs.cores.each_step_keeps.Goals as goal

pub returns : goal.returns
returns c = step_keeps
