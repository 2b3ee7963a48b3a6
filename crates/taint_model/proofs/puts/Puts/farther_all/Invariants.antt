use Rattle.std.proofs.Common.{◌≡◌, ◌++◌}
use Rattle.std.specs.FinMap.{entries}
use Rattle.taint_model.proofs.PutReads.{met}
use Rattle.taint_model.proofs.puts.Puts.farther_all.Given as goal

abbrev pub invariant-loop-cell : goal.invariant-loop-cell
invariant-loop-cell l = l.found.items ++ met l.step l.cell-iterator ≡ met l.step (entries l.self)
