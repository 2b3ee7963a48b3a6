use Rattle.std.proofs.Common.{ap, ◌∙◌, sym}
use Rattle.std.specs.FinMap.{empty_of_len, len, len-empty}
use Rattle.rv_names.specs.Keys.{bytes_order}
use Rattle.project.specs.Items.{FileParts}
use Rattle.project.proofs.Maps.{length_in, rises}
use Rattle.project.proofs.files.Files.is_empty.Goals as goal

pub returns : goal.returns
returns c =
    let same = length_in c.self.inside.live.entries (rises c.self.inside.live.entries c.self.invariant.0.rising) ∙ ap len c.self.view_is in
    (λ h. empty_of_len c.args.self.now (sym same ∙ c.is_empty.ensures.0 h), λ e. c.is_empty.ensures.1 (same ∙ ap len e ∙ len-empty bytes_order FileParts))
