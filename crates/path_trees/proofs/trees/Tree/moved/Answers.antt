use Rattle.std.proofs.Common.{◌≡◌, subst, ap, IfOk}
use Rattle.path_trees.specs.Trees.{TreeMap, least_of}
use Rattle.path_trees.specs.Operations.{images}
use Rattle.path_trees.proofs.trees.Tree.moved.Goals as goal

pub returns : goal.returns
returns c =
    let P : TreeMap → Type 0 = λ z. IfOk c.gathered.result (λ (r : TreeMap). r ≡ z) in
    subst P (ap (λ z. least_of (images c.args.by.now z)) c.entries.ensures.all) c.gathered.ensures
