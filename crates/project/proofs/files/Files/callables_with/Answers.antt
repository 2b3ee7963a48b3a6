use Rattle.std.proofs.Common.{ap, ◌∙◌}
use Rattle.std.specs.Arc.{arc_value}
use Rattle.std.specs.FinMap.{insert}
use Rattle.project.specs.Callables.{capped}
use Rattle.project.specs.Files.{given_by_all, with_file}
use Rattle.project.proofs.Counts.{capped_given}
use Rattle.project.proofs.files.Files.callables_with.Goals as goal

pub returns : goal.returns
returns c =
    c.min.ensures
    ∙ ap capped (c.given_with.ensures ∙ ap (λ f. given_by_all (insert c.args.self.now f.path f)) c.in_ok-file.ensures)
    ∙ capped_given (with_file c.args.self.now c.args.path.now (arc_value c.args.item.now) c.args.len)
