use Rattle.py_expr.proofs.Fronts.{unfinished_is, unfinished_told}
use Rattle.py_expr.proofs.reading.judged_unfinished.Goals as goal

pub returns-in-Some : goal.returns-in-Some
returns-in-Some c = λ at. unfinished_told _ _ _ _ _ c.requires.stops c.run_before-run.ensures.value c.in-Some.ensures

pub returns-in-None : goal.returns-in-None
returns-in-None c = λ at. unfinished_is _ _ _ _ c.requires.stops c.run_before-run.ensures.value c.in-None.ensures c.stop_place.ensures
