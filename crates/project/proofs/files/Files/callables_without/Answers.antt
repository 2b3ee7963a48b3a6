use Rattle.std.proofs.Common.{ap, ◌∙◌}
use Rattle.project.specs.Callables.{capped}
use Rattle.project.proofs.Counts.{capped_given}
use Rattle.std.specs.FinMap.{remove}
use Rattle.project.proofs.files.Files.callables_without.Goals as goal

pub returns : goal.returns
returns c = c.min.ensures ∙ ap capped c.given_without.ensures ∙ capped_given (remove c.args.self.now c.args.path.now)
