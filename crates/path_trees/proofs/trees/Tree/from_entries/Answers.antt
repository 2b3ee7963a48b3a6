use Rattle.std.proofs.Common.{◌≡◌, subst, ap, IfOk}
use Rattle.path_trees.specs.Trees.{TreeMap, least_of, pairs_of}
use Rattle.path_trees.proofs.TreeParts.{images_same}
use Rattle.path_trees.proofs.trees.Tree.from_entries.Goals as goal

pub returns : goal.returns
returns c =
    let P : TreeMap → Type 0 = λ z. IfOk c.gathered.result (λ (r : TreeMap). r ≡ z) in
    subst P (ap least_of (images_same (pairs_of c.args.entries.now))) c.gathered.ensures
