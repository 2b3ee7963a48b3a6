use Rattle.std.proofs.Common.{map, ap, ◌∙◌}
use Rattle.std.specs.Arc.{arc_value}
use Rattle.project.specs.Modules.{placed}
use Rattle.project.proofs.Listed.{listing_start}
use Rattle.project.proofs.files.Files.modules.Goals as goal

pub loop-path-init : goal.loop-path-init
loop-path-init c =
    listing_start c.args.self.now (map (placed arc_value) c.new-items.result.items) c.into_iter-path-iterator.result c.know.ensures
    (ap (map (placed arc_value)) c.new-items.ensures.items)
    (c.into_iter-path-iterator.ensures.into_iter_gives ∙ c.iter-path-items.ensures)
