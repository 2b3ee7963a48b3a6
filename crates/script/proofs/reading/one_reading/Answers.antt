use Rattle.script.proofs.Pieces.{one_reading}
use Rattle.script.proofs.reading.one_reading.Goals as goal

pub returns : goal.returns
returns c = one_reading
