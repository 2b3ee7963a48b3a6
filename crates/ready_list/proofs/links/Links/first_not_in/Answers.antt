use Rattle.std.proofs.Common.{arith, ◌≡◌, ℕ, ◌+◌, ◌-◌, slice_index, sym, ◌∙◌, ap, subst, true, false, Some}
use Rattle.std.proofs.lemmas.List.{get_or_read}
use Rattle.ready_list.specs.Listed.{Listed, IsWellFormed, is_set}
use Rattle.ready_list.proofs.Lists.{list-well_formed}
use Rattle.ready_list.proofs.Walks.{IsWalk, walk-id, walk-next, walk-found}
use Rattle.ready_list.proofs.links.Links.first_not_in.Goals as goal

pub overflow_sub-id : goal.overflow_sub-id
overflow_sub-id c =
    let next = c.self.inside.chain.next.items in
    let is : c.index-place.result.now ≡ slice_index next c.loop.place =
    get_or_read next c.loop.place c.index-place.result.now c.loop.invariant.inside c.index-place.ensures 0 in
    let id = walk-id next _ _ _ _ _ c.loop.place c.self.invariant c.loop.invariant (omega arith) in
    omega (arith, is, id.0)

pub returns-then-not-has-clause-first : goal.returns-then-not-has-clause-first
returns-then-not-has-clause-first c =
    let next = c.self.inside.chain.next.items in
    let is : c.index-place.result.now ≡ slice_index next c.loop.place =
    get_or_read next c.loop.place c.index-place.result.now c.loop.invariant.inside c.index-place.ensures 0 in
    let clear : is_set c.args.flags.now (slice_index next c.loop.place - 1) ≡ false =
    ap (λ (p : ℕ). is_set c.args.flags.now (p - 1)) (sym is) ∙ sym c.has.ensures ∙ c.if-not-has.true in
    ap (λ (p : ℕ). Some (p - 1)) is
    ∙ walk-found next c.args.self.now.ids c.args.flags.now (c.self.inside.len - c.loop.counter) c.loop.place c.loop.invariant (omega arith) clear

pub returns-then-not-has-clause-well_formed : goal.returns-then-not-has-clause-well_formed
returns-then-not-has-clause-well_formed c =
    subst (λ (v : Listed). IsWellFormed v) c.self.view_is (list-well_formed _ _ _ c.self.invariant)

pub loop-preserved : goal.loop-preserved
loop-preserved c =
    let next = c.self.inside.chain.next.items in
    let is : c.index-place.result.now ≡ slice_index next c.loop.place =
    get_or_read next c.loop.place c.index-place.result.now c.loop.invariant.inside c.index-place.ensures 0 in
    let found : is_set c.args.flags.now (slice_index next c.loop.place - 1) ≡ true =
    ap (λ (p : ℕ). is_set c.args.flags.now (p - 1)) (sym is) ∙ sym c.has.ensures ∙ c.if-not-has.false in
    subst (λ (p : ℕ). IsWalk next c.args.self.now.ids c.args.flags.now (c.self.inside.len - (c.loop.counter + 1)) p) (sym is)
    (walk-next next c.self.inside.chain.previous.items c.args.self.now.ids c.args.flags.now c.self.inside.len
    (c.self.inside.len - c.loop.counter) c.loop.place (c.self.inside.len - (c.loop.counter + 1))
    c.self.invariant c.loop.invariant (omega arith) found)

pub returns-clause-well_formed : goal.returns-clause-well_formed
returns-clause-well_formed c =
    subst (λ (v : Listed). IsWellFormed v) c.self.view_is (list-well_formed _ _ _ c.self.invariant)
