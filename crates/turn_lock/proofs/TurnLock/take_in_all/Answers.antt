use Rattle.std.proofs.Common.{◌∙◌}
use Rattle.turn_lock.specs.Seats.{seat_view}
use Rattle.turn_lock.proofs.Rounds.{last_other, next_gathered, still_rests}
use Rattle.turn_lock.proofs.TurnLock.take_in_all.Goals as goal

pub take_in-requires-clause-of_lock : goal.take_in-requires-clause-of_lock
take_in-requires-clause-of_lock g c =
    let done = c.loop-seat.invariant.2 in
    (c.loop-seat.invariant.0 ∙ c.requires.of_lock, (last_other _ c.args.others.items _ _ done.0 c.in-Some.seat c.requires.others done.1 c.in-Some.ensures.items).0)

pub take_in-requires-clause-rest : goal.take_in-requires-clause-rest
take_in-requires-clause-rest g c =
    let done = c.loop-seat.invariant.2 in
    (c.loop-seat.invariant.1, (last_other _ c.args.others.items _ _ done.0 c.in-Some.seat c.requires.others done.1 c.in-Some.ensures.items).1)

pub loop-seat-preserved : goal.loop-seat-preserved
loop-seat-preserved g c =
    let done = c.loop-seat.invariant.2 in (
      c.take_in.ensures.0 ∙ c.loop-seat.invariant.0,
      still_rests c.loop-seat.first c.take_in.new.first (seat_view c.in-Some.seat) c.take_in.ensures.1 c.loop-seat.invariant.1,
      next_gathered (seat_view c.args.first.now) c.args.others.items c.loop-seat.left.items c.pop.new.self.items done.0 c.loop-seat.first c.take_in.new.first c.in-Some.seat done.1 c.in-Some.ensures.items done.2 c.take_in.ensures.1,
    )
