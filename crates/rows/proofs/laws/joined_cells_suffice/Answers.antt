use Rattle.rows.proofs.Monotony.{same_where_read, joined_cells, joined_cells_least}
use Rattle.rows.proofs.laws.joined_cells_suffice.Goals as goal

pub returns-clause-alike : goal.returns-clause-alike
returns-clause-alike c = same_where_read

pub returns-clause-solves : goal.returns-clause-solves
returns-clause-solves c = joined_cells

pub returns-clause-least : goal.returns-clause-least
returns-clause-least c = joined_cells_least
