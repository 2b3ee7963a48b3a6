use Rattle.std.proofs.Common.{ap, ◌∙◌, []}
use Rattle.path_trees.specs.Merging.{merge}
use Rattle.path_trees.proofs.Merges.{map_of, merge_nil}
use Rattle.path_trees.proofs.trees.Tree.copy.Goals as goal

pub invariant_of-result : goal.invariant_of-result
invariant_of-result c = rw (c.in_ok-entries.ensures, c.deref.ensures.value, merge_nil c.self.inside.entries.items) c.self.invariant

pub returns : goal.returns
returns c = ap map_of (c.in_ok-entries.ensures ∙ ap (λ z. merge z []) c.deref.ensures.value ∙ merge_nil c.self.inside.entries.items) ∙ c.self.view_is
