use Rattle.rows.proofs.CoreSteps.{reached_below}
use Rattle.rows.proofs.Edits.{reached_under}
use Rattle.rows.proofs.cores.reached_below.Goals as goal

pub returns-clause-states : goal.returns-clause-states
returns-clause-states c = reached_below

pub returns-clause-families : goal.returns-clause-families
returns-clause-families c = reached_under
