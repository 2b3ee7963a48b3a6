use Rattle.std.proofs.Common.{ap, ◌∙◌, sym}
use Rattle.std.specs.FinMap.{get}
use Rattle.taint_model.proofs.PutFacts.{get_puts, lookup_find, rises}
use Rattle.taint_model.proofs.puts.Puts.get.Goals as goal

pub returns : goal.returns
returns c =
    c.get.ensures.value ∙ lookup_find c.args.cell.now c.self.inside.trees.entries ∙ sym (get_puts c.self.inside.trees.entries c.args.cell.now (rises c.self.invariant))
    ∙ ap (λ p. get p c.args.cell.now) c.self.view_is
