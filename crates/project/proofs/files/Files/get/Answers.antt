use Rattle.std.proofs.Common.{ap, ◌∙◌}
use Rattle.std.specs.FinMap.{get}
use Rattle.project.proofs.Maps.{lookup_get, rises}
use Rattle.project.proofs.files.Files.get.Goals as goal

pub returns : goal.returns
returns c =
    c.get.ensures.value
    ∙ lookup_get c.args.path.now c.self.inside.live.entries (rises c.self.inside.live.entries c.self.invariant.0.rising)
    ∙ ap (λ m. get m c.args.path.now) c.self.view_is
