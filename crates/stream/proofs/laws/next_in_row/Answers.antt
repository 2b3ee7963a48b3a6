use Rattle.stream.proofs.Rows.{given_in_row, more_in_row}
use Rattle.stream.proofs.laws.next_in_row.Goals as goal

pub returns-clause-given : goal.returns-clause-given
returns-clause-given c = given_in_row

pub returns-clause-waits : goal.returns-clause-waits
returns-clause-waits c = more_in_row
