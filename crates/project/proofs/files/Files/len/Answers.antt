use Rattle.std.proofs.Common.{ap, ◌∙◌}
use Rattle.std.specs.FinMap.{len}
use Rattle.project.proofs.Maps.{length_in, rises}
use Rattle.project.proofs.files.Files.len.Goals as goal

pub returns : goal.returns
returns c = c.len.ensures.len ∙ length_in c.self.inside.live.entries (rises c.self.inside.live.entries c.self.invariant.0.rising) ∙ ap len c.self.view_is
