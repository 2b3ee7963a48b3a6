use Rattle.rows.proofs.Monotony.{solves_untouched}
use Rattle.rows.proofs.laws.untouched_rows_stay_solved.Goals as goal

pub returns : goal.returns
returns c = solves_untouched
