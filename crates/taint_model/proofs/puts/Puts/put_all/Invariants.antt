use Rattle.std.proofs.Common.{◌≡◌}
use Rattle.taint_model.specs.Puts.{joined_puts}
use Rattle.taint_model.proofs.PutJoins.{put_all}
use Rattle.taint_model.proofs.puts.Puts.put_all.Given as goal

abbrev pub invariant-loop-cell : goal.invariant-loop-cell
invariant-loop-cell l = put_all l.cell-iterator l.self ≡ joined_puts l.fn.self l.other
