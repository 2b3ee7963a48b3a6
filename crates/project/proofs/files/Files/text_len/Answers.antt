use Rattle.std.proofs.Common.{ap, ◌∙◌}
use Rattle.project.specs.Files.{text_of}
use Rattle.project.proofs.files.Files.text_len.Goals as goal

pub returns : goal.returns
returns c = c.self.invariant.0.text_is ∙ ap text_of c.self.view_is
