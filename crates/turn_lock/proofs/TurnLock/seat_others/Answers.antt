use Rattle.std.proofs.Common.{arith, ◌∙◌, subst}
use Rattle.turn_lock.specs.Locks.{id_of}
use Rattle.turn_lock.specs.Rounds.{AreMade}
use Rattle.turn_lock.proofs.Rounds.{first_made, next_made, one_longer}
use Rattle.turn_lock.proofs.TurnLock.seat_others.Goals as goal

pub another-next-requires-clause-of_lock : goal.another-next-requires-clause-of_lock
another-next-requires-clause-of_lock g c =
    let made = c.requires.first in
    (first_made _ made.0 _ c.loop-all.all.items _ c.loop-all.invariant.1 (c.loop-all.invariant.3 made.0 made.1) c.index_mut.ensures.value).0.of_lock

pub another-next-requires-clause-rests : goal.another-next-requires-clause-rests
another-next-requires-clause-rests g c =
    let made = c.requires.first in
    (first_made _ made.0 _ c.loop-all.all.items _ c.loop-all.invariant.1 (c.loop-all.invariant.3 made.0 made.1) c.index_mut.ensures.value).0.rests

pub another-next-requires-clause-first : goal.another-next-requires-clause-first
another-next-requires-clause-first g c =
    let made = c.requires.first in
    (first_made _ made.0 _ c.loop-all.all.items _ c.loop-all.invariant.1 (c.loop-all.invariant.3 made.0 made.1) c.index_mut.ensures.value).0.numbered

pub another-next-requires-clause-room : goal.another-next-requires-clause-room
another-next-requires-clause-room g c =
    let made = c.requires.first in
    let count = (first_made _ made.0 _ c.loop-all.all.items _ c.loop-all.invariant.1 (c.loop-all.invariant.3 made.0 made.1) c.index_mut.ensures.value).1 in
    let more = c.loop-all-test.true in
    let len = c.len.ensures in
    let few = c.requires.few in
    omega arith

pub loop-all-preserved : goal.loop-all-preserved
loop-all-preserved g c =
    let longer = one_longer c.loop-all.all.items c.push_reserved.new.self.items c.another-next.new.first c.another-next.result c.push_reserved.ensures.items in
    let more = c.loop-all-test.true in
    let len = c.len.ensures in (
      c.push_reserved.ensures.capacity ∙ c.loop-all.invariant.0,
      omega arith,
      omega arith,
      (λ badge made. next_made (id_of c.args.self.now) badge c.loop-all.all.items c.push_reserved.new.self.items c.index_mut.result.now c.another-next.new.first c.another-next.result c.loop-all.invariant.1 (c.loop-all.invariant.3 badge made) c.index_mut.ensures.value c.another-next.ensures.first c.another-next.ensures.made c.push_reserved.ensures.items),
    )

pub returns : goal.returns
returns g c =
    let at_most = c.loop-all.invariant.2 in
    let no_more = c.loop-all-test.false in
    let len = c.len.ensures in
    record { made = λ badge made. subst (λ n. AreMade (id_of c.args.self.now) badge n c.loop-all.all.items) (omega arith) (c.loop-all.invariant.3 badge made) }
