use Rattle.std.proofs.Common.{◌≡◌, ◌∙◌, ◌++◌, ◌∷◌, [], List, ap, arith}
use Rattle.std.specs.FinMap.{empty}
use Rattle.path_trees.specs.Trees.{TreeMap}
use Rattle.rows.specs.Families.{tree_at}
use Rattle.rows.proofs.Gifts.{tree_push}
use Rattle.rows.proofs.outputs.grow.Goals as goal

pub loop-alloc-preserved : goal.loop-alloc-preserved
loop-alloc-preserved c = record {
  more = let m = c.loop-alloc.invariant.more in omega (arith, c.in_ok-push.ensures.len);
  same = λ k. ap (λ (z : List TreeMap). tree_at z k) c.in_ok-push.ensures.items
      ∙ ap (λ (z : TreeMap). tree_at (c.loop-alloc.trees.items ++ z ∷ []) k) c.empty.ensures
      ∙ tree_push c.loop-alloc.trees.items k ∙ c.loop-alloc.invariant.same k;
}
