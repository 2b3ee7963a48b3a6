use Rattle.stream.proofs.Rows.{same_row}
use Rattle.stream.proofs.laws.same_row.Goals as goal

pub returns : goal.returns
returns c = same_row
