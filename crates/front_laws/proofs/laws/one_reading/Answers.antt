use Rattle.front_laws.proofs.OneReading.{one_reading}
use Rattle.front_laws.proofs.laws.one_reading.Goals as goal

pub returns : goal.returns
returns c = one_reading
