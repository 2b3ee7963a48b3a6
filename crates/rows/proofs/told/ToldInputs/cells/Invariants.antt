use Rattle.std.proofs.Common.{take}
use Rattle.rows.specs.Families.{IsJoinOfCells}
use Rattle.rows.specs.Told.{puts_of}
use Rattle.rows.proofs.told.ToldInputs.cells.Given as goal

abbrev pub invariant-loop-put : goal.invariant-loop-put
invariant-loop-put l = IsJoinOfCells (puts_of (take l.put-index l.self.puts.items)) l.step l.all
