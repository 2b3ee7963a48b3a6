use Rattle.std.proofs.Common.{ap, ◌∙◌, ◌++◌, ◌∷◌, []}
use Rattle.path_trees.proofs.Merges.{map_of}
use Rattle.path_trees.proofs.TreeParts.{map_one}
use Rattle.path_trees.proofs.trees.Tree.of.Goals as goal

pub returns : goal.returns
returns c = ap map_of (c.in_ok-push.ensures.items ∙ ap (λ z. z ++ c.args.entry ∷ []) c.new-entries.ensures.items) ∙ map_one c.args.entry
