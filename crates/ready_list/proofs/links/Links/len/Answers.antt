use Rattle.std.proofs.Common.{length, sym, ◌∙◌, ap, subst}
use Rattle.ready_list.specs.Listed.{Listed, IsWellFormed}
use Rattle.ready_list.proofs.Lists.{length-following, list-well_formed}
use Rattle.ready_list.proofs.links.Links.len.Goals as goal

pub returns-clause-value : goal.returns-clause-value
returns-clause-value c =
    sym (length-following c.self.inside.chain.next.items c.self.inside.len 0) ∙ ap (λ (v : Listed). length v.ids) c.self.view_is

pub returns-clause-well_formed : goal.returns-clause-well_formed
returns-clause-well_formed c = subst (λ (v : Listed). IsWellFormed v) c.self.view_is (list-well_formed _ _ _ c.self.invariant)
