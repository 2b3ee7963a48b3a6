use Rattle.std.proofs.Common.{◌∙◌}
use Rattle.rows.proofs.Turns.{rows_below_next}
use Rattle.rows.proofs.solving.empty_nodes.Goals as goal

pub loop-row-preserved : goal.loop-row-preserved
loop-row-preserved c =
    let g = c.in_ok-grow.ensures in record {
      all = rows_below_next c.loop-row.nodes.len c.grow.new.trees.len c.nodes_for.result c.args.rows.now c.loop-row.row-index c.row-item.result c.loop-row-test.true c.row-item.is g.more g.enough c.nodes_for.ensures c.loop-row.invariant.all;
      empty_all = λ k. g.same k ∙ c.loop-row.invariant.empty_all k;
    }
