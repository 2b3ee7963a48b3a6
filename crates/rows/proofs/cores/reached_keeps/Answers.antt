use Rattle.rows.proofs.CoreSteps.{reached_keeps}
use Rattle.rows.proofs.Edits.{reached_facts}
use Rattle.rows.proofs.cores.reached_keeps.Goals as goal

pub returns-clause-states : goal.returns-clause-states
returns-clause-states c = reached_keeps

pub returns-clause-families : goal.returns-clause-families
returns-clause-families c = reached_facts
