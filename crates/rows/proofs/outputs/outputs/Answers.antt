use Rattle.rows.specs.Solutions.{family}
use Rattle.rows.proofs.Gifts.{giving_start, giving_more}
use Rattle.rows.proofs.outputs.outputs.Goals as goal

pub loop-row-init : goal.loop-row-init
loop-row-init g c =
    giving_start (g.I.Inputs.trees c.args.inputs.now) c.args.rows.now c.args.nodes.items c.empty.result c.new.result.items c.new-2.result.items c.empty.ensures c.new.ensures.items c.new-2.ensures.items c.requires

pub loop-row-preserved : goal.loop-row-preserved
loop-row-preserved g c =
    giving_more (g.I.Inputs.trees c.args.inputs.now) c.args.rows.now c.args.nodes.items (family c.loop-row.solution) (family c.give.new.solution) c.loop-row.row-index c.row-item.result c.loop-row-test.true c.row-item.is
    c.requires c.in_ok-give.ensures c.loop-row.invariant
