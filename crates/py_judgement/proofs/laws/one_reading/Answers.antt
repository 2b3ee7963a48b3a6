use Rattle.py_judgement.proofs.OneReading.{has_one_reading}
use Rattle.py_judgement.proofs.laws.one_reading.Goals as goal

pub returns : goal.returns
returns c = has_one_reading
