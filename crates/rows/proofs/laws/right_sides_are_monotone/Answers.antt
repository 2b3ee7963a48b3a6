use Rattle.rows.proofs.Monotone.{right-mono}
use Rattle.rows.proofs.laws.right_sides_are_monotone.Goals as goal

pub returns : goal.returns
returns c = right-mono
