use Rattle.rows.proofs.Edits.{any_order_settles}
use Rattle.rows.proofs.laws.any_order_settles.Goals as goal

pub returns : goal.returns
returns c = any_order_settles
