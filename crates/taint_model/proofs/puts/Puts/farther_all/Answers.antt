use Rattle.std.proofs.Common.{ap, ◌∙◌, ◌++◌}
use Rattle.taint_model.proofs.PutFacts.{entries_view}
use Rattle.taint_model.proofs.PutReads.{met}
use Rattle.taint_model.proofs.puts.Puts.farther_all.Goals as goal

pub loop-cell-init : goal.loop-cell-init
loop-cell-init c =
    ap (λ z. z ++ met c.args.step.now c.into_iter-cell-iterator.result) c.new-found.ensures.items
    ∙ ap (met c.args.step.now) (c.into_iter-cell-iterator.ensures.into_iter_gives.0 ∙ entries_view c.self.inside.trees.entries c.args.self.now c.self.invariant c.self.view_is)
