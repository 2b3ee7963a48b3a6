use Rattle.std.proofs.Common.{◌≡◌, ◌+◌, ◌-◌, refl, sym, ◌∙◌, ap, subst}
use Rattle.std.specs.Prelude.{Contains}
use Rattle.ready_list.specs.Listed.{Listed, without}
use Rattle.ready_list.specs.Ring.{following, IsList}
use Rattle.ready_list.proofs.Leads.{without-absent}
use Rattle.ready_list.proofs.Lists.{list-well_formed, list-dropped, list-lacks}
use Rattle.ready_list.proofs.links.Links.remove.Goals as goal

pub returns-then-not-contains-clause-rest : goal.returns-then-not-contains-clause-rest
returns-then-not-contains-clause-rest c =
    sym (without-absent c.args.id c.args.self.now.ids
    (list-lacks c.args.self.now.ids c.args.id c.contains.result c.contains.ensures.found.1 c.if-not-contains.true))

dropped : (c : goal.After-self-1)
    → IsList c.unlink.new.self.next.items c.unlink.new.self.previous.items (c.self.inside.len - 1)
    × (following c.unlink.new.self.next.items (c.self.inside.len - 1) 0
    ≡ without c.args.id (following c.self.inside.chain.next.items c.self.inside.len 0))
dropped c =
    let found : Contains c.args.self.now.ids c.args.id = c.contains.ensures.found.0 c.if-not-contains.false in
    list-dropped _ _ _ _ _ c.args.id (c.args.id + 1) c.self.invariant
    (subst (λ (v : Listed). Contains v.ids c.args.id) (sym c.self.view_is) found) refl
    c.unlink.ensures.next c.unlink.ensures.previous

pub invariant_of-self : goal.invariant_of-self
invariant_of-self c = (dropped c).0

pub returns-clause-rest : goal.returns-clause-rest
returns-clause-rest c = (dropped c).1 ∙ ap (λ (v : Listed). without c.args.id v.ids) c.self.view_is

pub returns-clause-well_formed : goal.returns-clause-well_formed
returns-clause-well_formed c = list-well_formed _ _ _ (dropped c).0
