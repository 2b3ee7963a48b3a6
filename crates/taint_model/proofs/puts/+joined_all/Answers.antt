use Rattle.std.proofs.Common.{IfOk, ◌≡◌, subst}
use Rattle.path_trees.specs.Trees.{TreeMap}
use Rattle.taint_model.proofs.TreeFacts.{join_all_halves, join_all_single}
use Rattle.taint_model.proofs.puts.+joined_all.Goals as goal

pub returns-in-len1 : goal.returns-in-len1
returns-in-len1 t c =
    let P : TreeMap → Type 0 = λ z. IfOk c.copy.result (λ (r : TreeMap). r ≡ z) in
    subst P (join_all_single c.args.trees.now c.tree-item.result c.in-len1.len_at_least c.in-len1.len_below c.tree-item.is) c.copy.ensures

pub returns-in_ok-back-in_default : goal.returns-in_ok-back-in_default
returns-in_ok-back-in_default t c =
    let P : TreeMap → Type 0 = λ z. IfOk c.join.result (λ (r : TreeMap). r ≡ z) in
    subst P (join_all_halves _ c.args.trees.now _ _ _ _ c.split_at.ensures.front c.split_at.ensures.back c.in_ok-front-in_default.ensures c.in_ok-back-in_default.ensures) c.join.ensures
