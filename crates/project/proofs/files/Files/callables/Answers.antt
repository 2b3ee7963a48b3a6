use Rattle.std.proofs.Common.{ap, ◌∙◌}
use Rattle.project.specs.Callables.{capped}
use Rattle.project.specs.Files.{given_by_all}
use Rattle.project.proofs.Counts.{capped_given}
use Rattle.project.proofs.files.Files.callables.Goals as goal

pub returns : goal.returns
returns c = c.min.ensures ∙ ap capped (c.self.invariant.0.given_is ∙ ap given_by_all c.self.view_is) ∙ capped_given c.args.self.now
