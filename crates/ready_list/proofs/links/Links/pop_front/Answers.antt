use Rattle.std.proofs.Common.{arith, ◌≡◌, ℕ, ◌-◌, List, ◌∷◌, slice_index, sym, ◌∙◌, ap, subst}
use Rattle.std.specs.Prelude.{Contains}
use Rattle.ready_list.specs.Listed.{Listed, without}
use Rattle.ready_list.specs.Ring.{following, IsList}
use Rattle.ready_list.proofs.Lists.{list-well_formed, list-dropped, list-first}
use Rattle.std.proofs.lemmas.List.{get_or_read}
use Rattle.ready_list.proofs.links.Links.pop_front.Goals as goal

first : (c : goal.After-self-1)
    → Contains (following c.self.inside.chain.next.items c.self.inside.len 0) (c.index-place.result.now - 1)
    × (following c.self.inside.chain.next.items c.self.inside.len 0
    ≡ (c.index-place.result.now - 1) ∷ without (c.index-place.result.now - 1) (following c.self.inside.chain.next.items c.self.inside.len 0))
first c =
    let next = c.self.inside.chain.next.items in
    let ids = following next c.self.inside.len 0 in
    let is : c.index-place.result.now ≡ slice_index next 0 =
    get_or_read next 0 c.index-place.result.now c.self.invariant.ring.head c.index-place.ensures 0 in
    subst (λ (p : ℕ). Contains ids (p - 1) × (ids ≡ (p - 1) ∷ without (p - 1) ids)) (sym is)
    (list-first next c.self.inside.chain.previous.items c.self.inside.len c.self.invariant
    (λ e. c.if-place-eq-HEAD.false (is ∙ e)))

dropped : (c : goal.After-self-1)
    → IsList c.unlink.new.self.next.items c.unlink.new.self.previous.items (c.self.inside.len - 1)
    × (following c.unlink.new.self.next.items (c.self.inside.len - 1) 0
    ≡ without (c.index-place.result.now - 1) (following c.self.inside.chain.next.items c.self.inside.len 0))
dropped c =
    list-dropped _ _ _ _ _ (c.index-place.result.now - 1) c.index-place.result.now c.self.invariant (first c).0 (omega arith)
    c.unlink.ensures.next c.unlink.ensures.previous

pub invariant_of-self : goal.invariant_of-self
invariant_of-self c = (dropped c).0

pub returns-clause-first : goal.returns-clause-first
returns-clause-first c =
    ap (λ (v : Listed). v.ids) (sym c.self.view_is) ∙ (first c).1
    ∙ ap (λ (xs : List ℕ). (c.index-place.result.now - 1) ∷ xs) (sym (dropped c).1)

pub returns-clause-well_formed : goal.returns-clause-well_formed
returns-clause-well_formed c = list-well_formed _ _ _ (dropped c).0
