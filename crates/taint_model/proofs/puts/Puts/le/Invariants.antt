use Rattle.std.proofs.Common.{◌↔◌}
use Rattle.taint_model.specs.Puts.{PutsBelow}
use Rattle.taint_model.proofs.PutJoins.{Covers}
use Rattle.taint_model.proofs.puts.Puts.le.Given as goal

abbrev pub invariant-loop-cell : goal.invariant-loop-cell
invariant-loop-cell l = Covers l.cell-iterator l.other ↔ PutsBelow l.self l.other
