use Rattle.std.proofs.Common.{IfOk, ◌≡◌, ◌∙◌, ap, subst, sym}
use Rattle.path_trees.specs.Trees.{TreeMap}
use Rattle.path_trees.specs.Operations.{joined}
use Rattle.taint_model.specs.Puts.{tree_of}
use Rattle.taint_model.proofs.TreeFacts.{empty_join}
use Rattle.taint_model.proofs.puts.Puts.joined_at.Goals as goal

pub returns-in-None : goal.returns-in-None
returns-in-None c =
    let P : TreeMap → Type 0 = λ z. IfOk c.copy.result (λ (r : TreeMap). r ≡ z) in
    subst P (sym (empty_join c.args.tree.now) ∙ ap (λ o. joined (tree_of o) c.args.tree.now) c.in-None.ensures) c.copy.ensures
