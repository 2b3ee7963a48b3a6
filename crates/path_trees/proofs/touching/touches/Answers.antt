use Rattle.std.proofs.Common.{◌∙◌}
use Rattle.path_trees.proofs.TouchParts.{touch_lists}
use Rattle.path_trees.proofs.touching.touches.Goals as goal

pub returns : goal.returns
returns c = c.any_touches.ensures ∙ touch_lists _ _ _ _ c.entries.ensures.all c.entries-2.ensures.all
