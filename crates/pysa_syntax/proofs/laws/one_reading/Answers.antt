use Rattle.pysa_syntax.proofs.Verdict.{one_reading}
use Rattle.pysa_syntax.proofs.laws.one_reading.Goals as goal

pub returns : goal.returns
returns c = one_reading
