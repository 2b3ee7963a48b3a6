use Rattle.std.proofs.Common.{sym}
use Rattle.gen_project.proofs.Steps.{draw-zero}
use Rattle.gen_project.proofs.draws.Draws.new.Goals as goal

pub invariant_of-result : goal.invariant_of-result
invariant_of-result c = record { walked = sym (draw-zero c.args.number) }
