use Rattle.std.proofs.Common.{◌+◌, ℕ, ◌∷◌, length, ap, ◌∙◌, inl}
use Rattle.std.proofs.lemmas.Result.{IfOk-weaker}
use Rattle.std.specs.Io.KnownBytes.{Consumes}
use Rattle.stream.specs.State.{taken}
use Rattle.check_stream.specs.Checks.{OneMore}
use Rattle.check_stream.proofs.Steps.{Twice, kept_twice, took_twice, one_more_twice, ended_twice, total_at_limit, took_either, begins_with, found_taken, stops_at}
use Rattle.check_stream.proofs.fetch.fetch.Goals as goal

pub returns-then-is_run-clause-stops : goal.returns-then-is_run-clause-stops
returns-then-is_run-clause-stops g c =
    let front = begins_with c.peek.new.self.pending c.in-Some.first c.in_ok-first.field-0 c.in_ok-first.ensures.found c.in-Some.is in
    (c.place-then-is_run.ensures, inl (front.0, front.1 ∙ ap (λ (b : ℕ). b ∷ front.0) (c.is_run.ensures.run c.if-is_run.true)))

pub returns-clause-exact : goal.returns-clause-exact
returns-clause-exact g c = λ other. (
    let left = g.S.Source.left in
    let both : Twice c.args.stream.now c.peek.new.self c.next.new.self = record { still = c.in_ok-first.ensures.empty; first = c.in_ok-first.ensures.kept; second = c.next.ensures.kept } in
    took_twice (left c.args.source.now) (left c.peek.new.source) (left c.next.new.source) c.args.stream.now c.peek.new.self c.next.new.self both (c.in_ok-first.ensures.took (λ e. cc)) (c.next.ensures.took other))

pub returns-clause-one_more : goal.returns-clause-one_more
returns-clause-one_more g c = λ long. (
    let left = g.S.Source.left in
    let both : Twice c.args.stream.now c.peek.new.self c.next.new.self = record { still = c.in_ok-first.ensures.empty; first = c.in_ok-first.ensures.kept; second = c.next.ensures.kept } in (
      total_at_limit _ c.next.new.self c.next.result c.next.ensures.cause long,
      one_more_twice (left c.args.source.now) (left c.peek.new.source) (left c.next.new.source) c.args.stream.now c.peek.new.self c.next.new.self both (c.in_ok-first.ensures.took (λ e. cc)) (c.next.ensures.one_more long),
    ))

pub returns-clause-steps : goal.returns-clause-steps
returns-clause-steps g c =
    let left = g.S.Source.left in
    let old = c.args.stream.now in
    let mid = c.peek.new.self in
    let new = c.next.new.self in
    let p = c.in_ok-first.ensures in
    let n = c.next.ensures in
    let both : Twice c.args.stream.now c.peek.new.self c.next.new.self = record { still = p.empty; first = p.kept; second = n.kept } in
    record {
      kept = kept_twice old mid new both;
      place = n.place ∙ ap (λ (x : ℕ). x + length c.next.new.self.last) p.place;
      within = n.within;
      took = took_either c.next.result (Consumes (left c.args.source.now) (left c.next.new.source) (taken old new)) (OneMore (new.place + length new.pending) (left c.args.source.now) (left c.next.new.source) (taken old new))
          (λ other. took_twice (left c.args.source.now) (left c.peek.new.source) (left c.next.new.source) old mid new both (p.took (λ e. cc)) (n.took other))
          (λ long. (total_at_limit _ new c.next.result n.cause long, one_more_twice (left c.args.source.now) (left c.peek.new.source) (left c.next.new.source) old mid new both (p.took (λ e. cc)) (n.one_more long)));
      ended = ended_twice (left c.args.source.now) (left c.peek.new.source) old mid new both (p.took (λ e. cc)) (λ goes_on ends. (p.ended goes_on ends).0) (λ goes_on ends. (n.ended goes_on ends).0);
      over = λ over. (n.over (p.over over).1).1;
    }

pub returns-clause-found : goal.returns-clause-found
returns-clause-found g c =
    let both : Twice c.args.stream.now c.peek.new.self c.next.new.self = record { still = c.in_ok-first.ensures.empty; first = c.in_ok-first.ensures.kept; second = c.next.ensures.kept } in
    let front = begins_with c.peek.new.self.pending c.in-Some.first c.in_ok-first.field-0 c.in_ok-first.ensures.found c.in-Some.is in
    IfOk-weaker c.next.result _ _ (λ command spells. found_taken c.args.stream.now c.peek.new.self c.next.new.self c.in-Some.first front.0 command both front.1 (c.is_run.ensures.taken c.if-is_run.false) spells) c.next.ensures.found

pub returns-clause-stops : goal.returns-clause-stops
returns-clause-stops g c =
    let both : Twice c.args.stream.now c.peek.new.self c.next.new.self = record { still = c.in_ok-first.ensures.empty; first = c.in_ok-first.ensures.kept; second = c.next.ensures.kept } in
    let front = begins_with c.peek.new.self.pending c.in-Some.first c.in_ok-first.field-0 c.in_ok-first.ensures.found c.in-Some.is in
    let faults = g.S.Source.faults in
    stops_at (faults c.args.source.now) (faults c.peek.new.source) (faults c.next.new.source) c.args.stream.now c.peek.new.self c.next.new.self c.in-Some.first front.0 c.next.result both front.1 (c.is_run.ensures.taken c.if-is_run.false)
    c.next.ensures.empty c.in_ok-first.ensures.never_falls c.next.ensures.cause
