use Rattle.std.proofs.Common.{◌∙◌}
use Rattle.project.proofs.Maps.{entries_view, rises}
use Rattle.project.proofs.files.Files.iter.Goals as goal

pub returns : goal.returns
returns c = c.iter.ensures.rest ∙ entries_view c.self.inside.live.entries c.args.self.now (rises c.self.inside.live.entries c.self.invariant.0.rising) c.self.view_is
