use Rattle.rows.proofs.Monotony.{solves_for_less, least-mono}
use Rattle.rows.proofs.laws.lesser_inputs_keep_a_solution.Goals as goal

pub returns-clause-solves : goal.returns-clause-solves
returns-clause-solves c = solves_for_less

pub returns-clause-least : goal.returns-clause-least
returns-clause-least c = least-mono
