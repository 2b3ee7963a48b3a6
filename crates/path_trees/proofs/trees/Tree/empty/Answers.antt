use Rattle.std.proofs.Common.{ap, ◌∙◌}
use Rattle.path_trees.proofs.Merges.{map_of}
use Rattle.path_trees.proofs.TreeParts.{map_nil}
use Rattle.path_trees.proofs.trees.Tree.empty.Goals as goal

pub returns : goal.returns
returns c = ap map_of c.new.ensures.items ∙ map_nil
