use Rattle.std.proofs.Common.{arith}
use Rattle.py_parser.proofs.Verdicts.{module_read, stops_left}
use Rattle.py_parser.proofs.reading.read_module.Goals as goal

pub returns-in-empty : goal.returns-in-empty
returns-in-empty c = module_read _ _ _ c.in-Ok.ensures.read (omega (arith, c.in-empty.len_below))

pub returns-in-len1-up : goal.returns-in-len1-up
returns-in-len1-up c = stops_left _ _ _ c.in-Ok.ensures.read (omega (arith, c.in-len1-up.len_at_least))
