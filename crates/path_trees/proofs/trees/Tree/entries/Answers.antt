use Rattle.std.proofs.Common.{sym}
use Rattle.path_trees.proofs.Merges.{map_entries}
use Rattle.path_trees.proofs.TreeParts.{rises, held_near}
use Rattle.path_trees.proofs.trees.Tree.entries.Goals as goal

pub returns-clause-all : goal.returns-clause-all
returns-clause-all c = rw (c.deref.ensures.value, ← c.self.view_is) (sym (map_entries _ (rises c.self.invariant)))

pub returns-clause-near : goal.returns-clause-near
returns-clause-near c = rw c.deref.ensures.value (held_near _ c.self.invariant.held)
