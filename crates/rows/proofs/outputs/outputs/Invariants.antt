use Rattle.rows.specs.Solutions.{family}
use Rattle.rows.proofs.Gifts.{Giving}
use Rattle.rows.proofs.outputs.outputs.Given as goal

abbrev pub invariant-loop-row : goal.invariant-loop-row
invariant-loop-row g l = Giving (g.I.Inputs.trees l.inputs) l.rows l.fn.nodes.items (family l.solution) l.row-index
