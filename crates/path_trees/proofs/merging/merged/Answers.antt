use Rattle.std.proofs.Common.{ap, ◌∙◌, ◌++◌, ◌≡◌}
use Rattle.path_trees.specs.Merging.{merge}
use Rattle.path_trees.proofs.Merges.{merge_end_first, merge_end_second}
use Rattle.path_trees.proofs.merging.merged.Goals as goal
use Rattle.path_trees.proofs.merging.merged.Goals.{then-loop-out-test+else-not-is_empty, else-loop-out-test}

pub returns : goal.returns
returns c =
    let e = c.in_ok-push_copies-2.ensures ∙ ap (λ z. z ++ c.loop-out.ys.now) c.in_ok-push_copies.ensures in
    let end : (c.loop-out.out.items ++ c.loop-out.xs.now) ++ c.loop-out.ys.now ≡ c.loop-out.out.items ++ merge c.loop-out.xs.now c.loop-out.ys.now =
    elim c.loop-out-test.branch [
      | then-loop-out-test+else-not-is_empty w ↦ merge_end_second _ _ _ _ w.is_empty-in-loop-out.ensures w.if-not-is_empty.false
      | else-loop-out-test w ↦ merge_end_first _ _ _ _ c.is_empty.ensures w.loop-out-test.false
    ] in
    e ∙ end ∙ c.loop-out.invariant
