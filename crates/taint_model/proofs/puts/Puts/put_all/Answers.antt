use Rattle.std.proofs.Common.{ap, ◌∙◌, subst}
use Rattle.taint_model.specs.Puts.{HasNoEmptyTree}
use Rattle.taint_model.proofs.PutFacts.{entries_view}
use Rattle.taint_model.proofs.PutJoins.{put_all, put_all_joins}
use Rattle.taint_model.proofs.puts.Puts.put_all.Goals as goal

pub loop-cell-init : goal.loop-cell-init
loop-cell-init c =
    ap (λ z. put_all z c.args.self.now) (c.into_iter-cell-iterator.ensures.into_iter_gives.0 ∙ entries_view c.other.inside.trees.entries c.args.other.now c.other.invariant c.other.view_is)
    ∙ put_all_joins c.args.self.now c.args.other.now c.know.ensures.some (subst HasNoEmptyTree c.other.view_is c.other.invariant.held.some)
