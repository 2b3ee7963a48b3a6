use Rattle.std.proofs.Common.{◌∙◌}
use Rattle.taint_model.proofs.PutFacts.{entries_view}
use Rattle.taint_model.proofs.PutJoins.{covers_iff}
use Rattle.taint_model.proofs.puts.Puts.le.Goals as goal

pub loop-cell-init : goal.loop-cell-init
loop-cell-init c =
    covers_iff c.into_iter-cell-iterator.result c.args.self.now c.args.other.now
    (c.into_iter-cell-iterator.ensures.into_iter_gives.0 ∙ entries_view c.self.inside.trees.entries c.args.self.now c.self.invariant c.self.view_is)
