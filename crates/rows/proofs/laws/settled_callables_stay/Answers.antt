use Rattle.rows.proofs.CoreSteps.{least_stays, given_settles}
use Rattle.rows.proofs.Edits.{settled_stays}
use Rattle.rows.proofs.laws.settled_callables_stay.Goals as goal

pub returns-clause-solved : goal.returns-clause-solved
returns-clause-solved c = settled_stays

pub returns-clause-least : goal.returns-clause-least
returns-clause-least c = least_stays

pub returns-clause-given : goal.returns-clause-given
returns-clause-given c = given_settles
