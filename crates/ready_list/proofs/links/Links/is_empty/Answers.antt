use Rattle.std.proofs.Common.{subst}
use Rattle.ready_list.specs.Listed.{Listed, IsWellFormed}
use Rattle.ready_list.proofs.Lists.{list-well_formed}
use Rattle.ready_list.proofs.links.Links.is_empty.Goals as goal

pub returns-clause-well_formed : goal.returns-clause-well_formed
returns-clause-well_formed c = subst (λ (v : Listed). IsWellFormed v) c.self.view_is (list-well_formed _ _ _ c.self.invariant)
