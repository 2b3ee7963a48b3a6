use Rattle.std.proofs.Common.{arith, ◌≡◌, ◌+◌, ◌<◌, [], ◌∷◌, ◌++◌, length, sym, ◌∙◌, ap, subst}
use Rattle.ready_list.specs.Listed.{Listed}
use Rattle.ready_list.specs.Ring.{following, Lacks, IsList}
use Rattle.ready_list.proofs.Lists.{list-well_formed, list-len_more, list-pushed, list-lacks}
use Rattle.ready_list.proofs.links.Links.push_back.Goals as goal

pushed : (c : goal.After-self-1)
    → IsList c.link_before.new.self.next.items c.link_before.new.self.previous.items (c.self.inside.len + 1)
    × (following c.link_before.new.self.next.items (c.self.inside.len + 1) 0
    ≡ following c.self.inside.chain.next.items c.self.inside.len 0 ++ c.args.id ∷ [])
pushed c =
    list-pushed _ _ _ _ _ c.args.id c.self.invariant
    (omega (arith, ap (λ (v : Listed). v.room) c.self.view_is, c.requires))
    (subst (λ (v : Listed). Lacks v.ids c.args.id) (sym c.self.view_is)
    (list-lacks c.args.self.now.ids c.args.id c.contains.result c.contains.ensures.found.1 c.if-contains.false))
    c.link_before.ensures.next c.link_before.ensures.previous

pub overflow_add-self : goal.overflow_add-self
overflow_add-self c =
    let room : c.args.id + 1 < length c.self.inside.chain.next.items =
    omega (arith, ap (λ (v : Listed). v.room) c.self.view_is, c.requires) in
    omega (
      arith,
      c.self.invariant.fits,
      list-len_more c.self.inside.chain.next.items c.self.inside.chain.previous.items c.self.inside.len c.args.id
          c.self.invariant room
          (subst (λ (v : Listed). Lacks v.ids c.args.id) (sym c.self.view_is)
          (list-lacks c.args.self.now.ids c.args.id c.contains.result c.contains.ensures.found.1 c.if-contains.false)),
    )

pub invariant_of-self : goal.invariant_of-self
invariant_of-self c = (pushed c).0

pub returns-clause-added : goal.returns-clause-added
returns-clause-added c = (pushed c).1 ∙ ap (λ (v : Listed). v.ids ++ c.args.id ∷ []) c.self.view_is

pub returns-clause-well_formed : goal.returns-clause-well_formed
returns-clause-well_formed c = list-well_formed _ _ _ (pushed c).0
