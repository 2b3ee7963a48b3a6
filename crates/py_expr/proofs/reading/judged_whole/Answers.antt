use Rattle.std.proofs.Common.{arith}
use Rattle.py_expr.proofs.Fronts.{whole_is, whole_told}
use Rattle.py_expr.proofs.reading.judged_whole.Goals as goal

pub returns-in-Err : goal.returns-in-Err
returns-in-Err c = whole_told _ _ _ _ _ _ c.requires.longest c.run_before-run.ensures.value (rw c.in-Err.ensures.found at c.told_behind.ensures)

pub returns-in-Ok : goal.returns-in-Ok
returns-in-Ok c =
    rw c.in-Ok.ensures.value (whole_is _ _ _ _ _ _ c.requires.longest c.run_before-run.ensures.value (rw c.in-Ok.ensures.none at c.told_behind.ensures) (omega (arith, c.run_before-run.ensures.count)))
