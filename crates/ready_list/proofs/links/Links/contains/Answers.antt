use Rattle.std.proofs.Common.{◌+◌, sym, subst, IsTrue, ◌↔◌, eqb, not}
use Rattle.std.specs.Prelude.{Contains}
use Rattle.ready_list.specs.Listed.{Listed, IsWellFormed}
use Rattle.ready_list.proofs.Lists.{list-well_formed, list-contains, list-past}
use Rattle.std.proofs.lemmas.Bool.{false≢true}
use Rattle.ready_list.proofs.links.Links.contains.Goals as goal

pub returns-in-Some-clause-found : goal.returns-in-Some-clause-found
returns-in-Some-clause-found c =
    subst (λ (v : Listed). IsTrue (not (eqb c.in-Some.after.now (c.args.id + 1))) ↔ Contains v.ids c.args.id) c.self.view_is
    (list-contains c.self.inside.chain.next.items c.self.inside.chain.previous.items c.self.inside.len c.args.id _ c.self.invariant
    (rw (sym c.deref.ensures.value) c.in-Some.ensures.lookup.3.0)
    (rw (sym c.deref.ensures.value) (c.in-Some.ensures.lookup.3.1 0)))

pub returns-in-Some-clause-well_formed : goal.returns-in-Some-clause-well_formed
returns-in-Some-clause-well_formed c = subst (λ (v : Listed). IsWellFormed v) c.self.view_is (list-well_formed _ _ _ c.self.invariant)

pub returns-in-None-clause-found : goal.returns-in-None-clause-found
returns-in-None-clause-found c = (
  λ t. absurd (false≢true t),
  λ d. absurd (list-past c.self.inside.chain.next.items c.self.inside.chain.previous.items c.self.inside.len c.args.id c.self.invariant
      (rw (sym c.deref.ensures.value) c.in-None.ensures.lookup.3)
      (subst (λ (v : Listed). Contains v.ids c.args.id) (sym c.self.view_is) d)),
)

pub returns-in-None-clause-well_formed : goal.returns-in-None-clause-well_formed
returns-in-None-clause-well_formed c = subst (λ (v : Listed). IsWellFormed v) c.self.view_is (list-well_formed _ _ _ c.self.invariant)
