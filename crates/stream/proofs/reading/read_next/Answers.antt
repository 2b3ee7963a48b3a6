use Rattle.std.proofs.Common.{◌≡◌, ◌-◌, List, ℕ, true, length, drop, take, ap, subst, inl, inr, arith, ◌∙◌}
use Rattle.std.proofs.lemmas.Result.{err_from_is_err_and}
use Rattle.std.proofs.lemmas.List.{take_rest}
use Rattle.rv_io.specs.Moves.{Moves}
use Rattle.rv_io.proofs.Steps.{Moves-trans}
use Rattle.stream.specs.declared.fault.StreamFault.TheVariants.{TooLong}
use Rattle.stream.proofs.Reached.{reached_on, moved_one_more, other_fault, that_fault}
use Rattle.stream.proofs.reading.read_next.Goals as goal

pub returns-in_err-read_on-clause-moved : goal.returns-in_err-read_on-clause-moved
returns-in_err-read_on-clause-moved g c =
    let left = g.S.Source.left in
    let l = c.loop-next in
    let mid = drop l.start l.bytes.items in
    let p = err_from_is_err_and c.from_residual-in_err-read_on.result c.from_residual-in_err-read_on.ensures.1 in
    rw (p.1, p.2) (λ other. Moves-trans (left c.args.source.now) (left l.source) (left c.read_on.new.source) (drop c.args.start.now c.args.bytes.now.items) mid c.read_on.new.bytes.items l.invariant.reached.moved
    (subst (λ (x : List ℕ). Moves (left l.source) (left c.read_on.new.source) x c.read_on.new.bytes.items) c.forget.ensures.items (c.in_err-read_on.ensures.moved (other_fault c.in_err-read_on.field-0.0 TooLong other))))

pub returns-in_err-read_on-clause-one_more : goal.returns-in_err-read_on-clause-one_more
returns-in_err-read_on-clause-one_more g c =
    let left = g.S.Source.left in
    let l = c.loop-next in
    let mid = drop l.start l.bytes.items in
    let p = err_from_is_err_and c.from_residual-in_err-read_on.result c.from_residual-in_err-read_on.ensures.1 in
    rw (p.1, p.2) (λ long. (
    let stop = c.in_err-read_on.ensures.too_long (that_fault c.in_err-read_on.field-0.0 TooLong long) in
    moved_one_more (left c.args.source.now) (left l.source) (left c.read_on.new.source) (drop c.args.start.now c.args.bytes.now.items) mid c.read_on.new.bytes.items l.invariant.reached.moved (stop.0 ∙ c.forget.ensures.items) stop.2))

pub loop-next-preserved-in-More : goal.loop-next-preserved-in-More
loop-next-preserved-in-More g c =
    let left = g.S.Source.left in
    let faults = g.S.Source.faults in
    let l = c.loop-next in
    let mid = drop l.start l.bytes.items in
    let seen = take (length c.deref.result.now - l.start) (drop l.start c.deref.result.now) in
    record {
      start = omega arith;
      limit = omega (arith, c.in_ok-read_on.ensures.within);
      reached = reached_on (l.source ≡ c.args.source.now) (c.read_on.new.source ≡ c.args.source.now) (left c.args.source.now) (left l.source) (left c.read_on.new.source) (faults c.args.source.now) (faults l.source) (faults c.read_on.new.source)
          (drop c.args.start.now c.args.bytes.now.items) mid seen c.forget.new.bytes.items c.read_on.new.bytes.items c.args.over.now l.over l.over l.failed l.failed c.in_ok-next.next c.in_ok-next.len c.in-Need.wait c.in_ok-read_on.field-0
          l.invariant.reached (take_rest c.deref.result.now l.start ∙ ap (drop l.start) c.deref.ensures.value) c.forget.ensures.items c.in-Need.is c.in_ok-next.ensures.ok c.if-failed.false
          c.in_ok-read_on.ensures.needed (c.in_ok-read_on.ensures.moved (λ e. cc)) c.in_ok-read_on.ensures.never_falls c.in_ok-read_on.ensures.ok (λ o. inl o) (λ f. inl f);
    }

pub loop-next-preserved-in-End : goal.loop-next-preserved-in-End
loop-next-preserved-in-End g c =
    let left = g.S.Source.left in
    let faults = g.S.Source.faults in
    let l = c.loop-next in
    let mid = drop l.start l.bytes.items in
    let seen = take (length c.deref.result.now - l.start) (drop l.start c.deref.result.now) in
    record {
      start = omega arith;
      limit = omega (arith, c.in_ok-read_on.ensures.within);
      reached = reached_on (l.source ≡ c.args.source.now) (c.read_on.new.source ≡ c.args.source.now) (left c.args.source.now) (left l.source) (left c.read_on.new.source) (faults c.args.source.now) (faults l.source) (faults c.read_on.new.source)
          (drop c.args.start.now c.args.bytes.now.items) mid seen c.forget.new.bytes.items c.read_on.new.bytes.items c.args.over.now l.over true l.failed l.failed c.in_ok-next.next c.in_ok-next.len c.in-Need.wait c.in_ok-read_on.field-0
          l.invariant.reached (take_rest c.deref.result.now l.start ∙ ap (drop l.start) c.deref.ensures.value) c.forget.ensures.items c.in-Need.is c.in_ok-next.ensures.ok c.if-failed.false
          c.in_ok-read_on.ensures.needed (c.in_ok-read_on.ensures.moved (λ e. cc)) c.in_ok-read_on.ensures.never_falls c.in_ok-read_on.ensures.ok (λ o. inr c.in-End.is) (λ f. inl f);
    }

pub loop-next-preserved : goal.loop-next-preserved
loop-next-preserved g c =
    let left = g.S.Source.left in
    let faults = g.S.Source.faults in
    let l = c.loop-next in
    let mid = drop l.start l.bytes.items in
    let seen = take (length c.deref.result.now - l.start) (drop l.start c.deref.result.now) in
    record {
      start = omega arith;
      limit = omega (arith, c.in_ok-read_on.ensures.within);
      reached = reached_on (l.source ≡ c.args.source.now) (c.read_on.new.source ≡ c.args.source.now) (left c.args.source.now) (left l.source) (left c.read_on.new.source) (faults c.args.source.now) (faults l.source) (faults c.read_on.new.source)
          (drop c.args.start.now c.args.bytes.now.items) mid seen c.forget.new.bytes.items c.read_on.new.bytes.items c.args.over.now l.over l.over l.failed true c.in_ok-next.next c.in_ok-next.len c.in-Need.wait c.in_ok-read_on.field-0
          l.invariant.reached (take_rest c.deref.result.now l.start ∙ ap (drop l.start) c.deref.ensures.value) c.forget.ensures.items c.in-Need.is c.in_ok-next.ensures.ok c.if-failed.false
          c.in_ok-read_on.ensures.needed (c.in_ok-read_on.ensures.moved (λ e. cc)) c.in_ok-read_on.ensures.never_falls c.in_ok-read_on.ensures.ok (λ o. inl o) (λ f. inr c.in-Fault.is);
    }
