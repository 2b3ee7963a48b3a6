use Rattle.std.proofs.Common.{arith, ◌≡◌, ℕ, ◌+◌, List, sym, ◌∙◌, ap, subst}
use Rattle.ready_list.specs.Listed.{Listed, IsWellFormed}
use Rattle.ready_list.specs.Ring.{following, listed_by, IsList}
use Rattle.ready_list.proofs.Lists.{list-well_formed, list-grown}
use Rattle.ready_list.proofs.links.Links.grow.Goals as goal

grown : (c : goal.In_ok-grow)
    → IsList c.grow.new.self.next.items c.grow.new.self.previous.items c.self.inside.len
    × (following c.grow.new.self.next.items c.self.inside.len 0 ≡ following c.self.inside.chain.next.items c.self.inside.len 0)
grown c =
    list-grown _ _ _ _ _ (c.args.n + 1) c.self.invariant (omega arith) (omega arith) c.in_ok-grow.ensures.next c.in_ok-grow.ensures.previous

pub invariant_of-self : goal.invariant_of-self
invariant_of-self c = (grown c).0

pub returns-in_err-grow-clause-well_formed : goal.returns-in_err-grow-clause-well_formed
returns-in_err-grow-clause-well_formed c =
    subst (λ (xs : List ℕ). IsWellFormed (listed_by xs c.self.inside.len)) (sym c.in_err-grow.ensures.next_stays)
    (list-well_formed _ _ _ c.self.invariant)

pub returns-in_ok-grow-clause-ids : goal.returns-in_ok-grow-clause-ids
returns-in_ok-grow-clause-ids c = (grown c).1 ∙ ap (λ (v : Listed). v.ids) c.self.view_is

pub returns-in_ok-grow-clause-well_formed : goal.returns-in_ok-grow-clause-well_formed
returns-in_ok-grow-clause-well_formed c = list-well_formed _ _ _ (grown c).0

pub returns-else-len-places-clause-well_formed : goal.returns-else-len-places-clause-well_formed
returns-else-len-places-clause-well_formed c = subst (λ (v : Listed). IsWellFormed v) c.self.view_is (list-well_formed _ _ _ c.self.invariant)
