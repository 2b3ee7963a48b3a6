use Rattle.front_laws.proofs.OneReading.{one_fault}
use Rattle.front_laws.proofs.laws.one_fault.Goals as goal

pub returns : goal.returns
returns c = one_fault
