use Rattle.std.proofs.Common.{ap, ◌∙◌, sym}
use Rattle.std.specs.FinMap.{entries}
use Rattle.taint_model.proofs.PutFacts.{entries_puts, rises}
use Rattle.taint_model.proofs.puts.Puts.iter.Goals as goal

pub returns : goal.returns
returns c = c.iter.ensures.rest ∙ sym (entries_puts c.self.inside.trees.entries (rises c.self.invariant)) ∙ ap entries c.self.view_is
