use Rattle.std.proofs.Common.{◌≤◌, ◌≡◌, All, length, refl, sym, ◌∙◌, subst}
use Rattle.turn_lock.specs.Locks.{id_of, AreAll}
use Rattle.turn_lock.specs.Seats.{seat_view}
use Rattle.turn_lock.specs.Turn.{StartsWith, own_of}
use Rattle.turn_lock.proofs.Rounds.{apart, are_others, covered, same_number, all_seen, all_own, all_told}
use Rattle.turn_lock.proofs.TurnLock.close.Goals as goal

pub take_in_all-requires-clause-of_lock : goal.take_in_all-requires-clause-of_lock
take_in_all-requires-clause-of_lock g c =
    let same = apart _ _ c.remove-first.result c.remove-first.new.self.items c.requires.all c.remove-first.ensures.value c.remove-first.ensures.items in
    ((subst (AreAll (id_of c.args.self)) same c.requires.all).each 0 c.remove-first.result refl).of_lock

pub take_in_all-requires-clause-rests : goal.take_in_all-requires-clause-rests
take_in_all-requires-clause-rests g c =
    let same = apart _ _ c.remove-first.result c.remove-first.new.self.items c.requires.all c.remove-first.ensures.value c.remove-first.ensures.items in
    ((subst (AreAll (id_of c.args.self)) same c.requires.all).each 0 c.remove-first.result refl).rests

pub take_in_all-requires-clause-others : goal.take_in_all-requires-clause-others
take_in_all-requires-clause-others g c =
    let same = apart _ _ c.remove-first.result c.remove-first.new.self.items c.requires.all c.remove-first.ensures.value c.remove-first.ensures.items in
    are_others _ c.remove-first.result _ (subst (AreAll (id_of c.args.self)) same c.requires.all)

pub finish-requires-clause-of_lock : goal.finish-requires-clause-of_lock
finish-requires-clause-of_lock g c =
    let same = apart _ _ c.remove-first.result c.remove-first.new.self.items c.requires.all c.remove-first.ensures.value c.remove-first.ensures.items in
    c.take_in_all.ensures.of_lock ∙ ((subst (AreAll (id_of c.args.self)) same c.requires.all).each 0 c.remove-first.result refl).of_lock

pub finish-requires-clause-first : goal.finish-requires-clause-first
finish-requires-clause-first g c =
    let same = apart _ _ c.remove-first.result c.remove-first.new.self.items c.requires.all c.remove-first.ensures.value c.remove-first.ensures.items in
    same_number _ c.remove-first.new.self.items _ c.take_in_all.ensures.gathered ∙ ((subst (AreAll (id_of c.args.self)) same c.requires.all).each 0 c.remove-first.result refl).numbered

pub finish-requires-clause-all : goal.finish-requires-clause-all
finish-requires-clause-all g c =
    let same = apart _ _ c.remove-first.result c.remove-first.new.self.items c.requires.all c.remove-first.ensures.value c.remove-first.ensures.items in
    covered (id_of c.args.self) c.remove-first.result c.remove-first.new.self.items _ (subst (AreAll (id_of c.args.self)) same c.requires.all) c.take_in_all.ensures.gathered

pub returns-clause-seen : goal.returns-clause-seen
returns-clause-seen g c =
    let same = apart _ _ c.remove-first.result c.remove-first.new.self.items c.requires.all c.remove-first.ensures.value c.remove-first.ensures.items in
    subst (All (λ seat. StartsWith (g.V.Told.history c.finish.result) (seat_view seat).seen)) (sym same)
    (all_seen g.V.Told.history g.V.Told.by c.remove-first.result c.remove-first.new.self.items _ c.finish.result c.take_in_all.ensures.gathered c.finish.ensures.told)

pub returns-clause-own : goal.returns-clause-own
returns-clause-own g c =
    let same = apart _ _ c.remove-first.result c.remove-first.new.self.items c.requires.all c.remove-first.ensures.value c.remove-first.ensures.items in
    subst (All (λ seat. (seat_view seat).own ≡ own_of g.V.Told.by (seat_view seat).number (g.V.Told.history c.finish.result))) (sym same)
    (all_own g.V.Told.history g.V.Told.by c.remove-first.result c.remove-first.new.self.items _ c.finish.result c.take_in_all.ensures.gathered c.finish.ensures.told)

pub returns-clause-no_others : goal.returns-clause-no_others
returns-clause-no_others g c =
    let same = apart _ _ c.remove-first.result c.remove-first.new.self.items c.requires.all c.remove-first.ensures.value c.remove-first.ensures.items in
    subst (λ seats. All (λ entry. g.V.Told.by entry ≤ length seats) (g.V.Told.history c.finish.result)) (sym same)
    (all_told g.V.Told.history g.V.Told.by (id_of c.args.self) c.remove-first.result c.remove-first.new.self.items _ c.finish.result (subst (AreAll (id_of c.args.self)) same c.requires.all) c.take_in_all.ensures.gathered c.finish.ensures.told)
