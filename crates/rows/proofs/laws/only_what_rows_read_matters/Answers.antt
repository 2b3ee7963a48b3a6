use Rattle.rows.proofs.Monotony.{solves_reading}
use Rattle.rows.proofs.laws.only_what_rows_read_matters.Goals as goal

pub returns : goal.returns
returns c = solves_reading
