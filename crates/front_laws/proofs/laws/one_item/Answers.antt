use Rattle.front_laws.proofs.OneReading.{one_item}
use Rattle.front_laws.proofs.laws.one_item.Goals as goal

pub returns : goal.returns
returns c = one_item
