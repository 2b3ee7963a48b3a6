use Rattle.py_parser.proofs.Verdicts.{empty_is}
use Rattle.py_parser.proofs.reading.module_of_tokens.Goals as goal

pub returns-in-None : goal.returns-in-None
returns-in-None c = empty_is _ _ c.in-None.ensures.cases c.new.ensures
