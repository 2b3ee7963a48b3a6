use Rattle.std.proofs.Common.{◌≡◌, ◌+◌, ◌≤◌, List, ℕ, length, sym, subst, inr, arith}
use Rattle.rv_io.proofs.Steps.{Moves-trans, Moves-all, Rises-later}
use Rattle.rv_io.specs.Answers.{count_of}
use Rattle.script.specs.Stream.{BeginsNone}
use Rattle.stream.specs.State.{IsNeeded, GainsAll}
use Rattle.stream.proofs.Waits.{lacks_still}
use Rattle.stream.proofs.Reached.{none_now, needed_still, needed_more, piece_small}
use Rattle.stream.proofs.reading.read_on.Goals as goal

pub returns-in-Ok-End-clause-needed : goal.returns-in-Ok-End-clause-needed
returns-in-Ok-End-clause-needed g c =
    let l = c.loop-bytes in
    let now : IsNeeded c.args.bytes.now.items l.bytes.items = needed_still (g.S.Source.left c.args.source.now) (g.S.Source.left l.source) c.args.bytes.now.items l.bytes.items c.args.wait c.requires.waits l.invariant.moved l.invariant.lacks in
    subst (λ (x : List ℕ). IsNeeded c.args.bytes.now.items x) (sym (c.in-Ok-End.ensures.end_unchanged cc)) now

pub returns-in-Ok-End-clause-ok : goal.returns-in-Ok-End-clause-ok
returns-in-Ok-End-clause-ok g c =
    let l = c.loop-bytes in
    let same = sym (c.in-Ok-End.ensures.end_unchanged cc) in
    let all = Moves-all (g.S.Source.left c.args.source.now) (g.S.Source.left l.source) c.args.bytes.now.items l.bytes.items l.invariant.moved (c.in-Ok-End.ensures.at_end cc) in
    let none = none_now (g.S.Source.left c.args.source.now) (g.S.Source.left l.source) c.args.bytes.now.items l.bytes.items c.args.wait c.requires.waits l.invariant.moved l.invariant.lacks in
    (subst (λ (x : List ℕ). GainsAll (g.S.Source.left c.args.source.now) c.args.bytes.now.items x) same all, subst (λ (x : List ℕ). BeginsNone 0 x) same none)

pub returns-in-Err-Fault-clause-needed : goal.returns-in-Err-Fault-clause-needed
returns-in-Err-Fault-clause-needed g c =
    let l = c.loop-bytes in
    let now : IsNeeded c.args.bytes.now.items l.bytes.items = needed_still (g.S.Source.left c.args.source.now) (g.S.Source.left l.source) c.args.bytes.now.items l.bytes.items c.args.wait c.requires.waits l.invariant.moved l.invariant.lacks in
    subst (λ (x : List ℕ). IsNeeded c.args.bytes.now.items x) (sym c.in-Err-Fault.ensures.err) now

pub returns-in-Err-Fault-clause-ok : goal.returns-in-Err-Fault-clause-ok
returns-in-Err-Fault-clause-ok g c =
    let l = c.loop-bytes in
    let none = none_now (g.S.Source.left c.args.source.now) (g.S.Source.left l.source) c.args.bytes.now.items l.bytes.items c.args.wait c.requires.waits l.invariant.moved l.invariant.lacks in
    (Rises-later _ _ _ l.invariant.never_falls (c.in-Err-Fault.ensures.fault cc), subst (λ (x : List ℕ). BeginsNone 0 x) (sym c.in-Err-Fault.ensures.err) none)

pub returns-in-Err-Memory-clause-needed : goal.returns-in-Err-Memory-clause-needed
returns-in-Err-Memory-clause-needed g c =
    let l = c.loop-bytes in
    let now : IsNeeded c.args.bytes.now.items l.bytes.items = needed_still (g.S.Source.left c.args.source.now) (g.S.Source.left l.source) c.args.bytes.now.items l.bytes.items c.args.wait c.requires.waits l.invariant.moved l.invariant.lacks in
    subst (λ (x : List ℕ). IsNeeded c.args.bytes.now.items x) (sym c.in-Err-Memory.ensures.err) now

pub returns-then-len-limit-clause-needed : goal.returns-then-len-limit-clause-needed
returns-then-len-limit-clause-needed g c =
    let l = c.loop-bytes in
    let small : count_of c.in-Ok-Bytes.field-0 ≤ 65536 = piece_small c.in-Ok-Bytes.field-0 c.in-Ok-Bytes.ensures.piece in
    let short : length c.read_more.new.buf.items ≤ length l.bytes.items + 65536 = omega (arith, small, c.in-Ok-Bytes.ensures.count, l.bytes.ok.0, c.read_more.new.buf.ok.0) in
    needed_more (g.S.Source.left c.args.source.now) (g.S.Source.left l.source) (g.S.Source.left c.read_more.new.src) c.args.bytes.now.items l.bytes.items c.read_more.new.buf.items c.args.wait c.requires.waits l.invariant.moved l.invariant.lacks c.in-Ok-Bytes.ensures.moved short

pub loop-bytes-preserved : goal.loop-bytes-preserved
loop-bytes-preserved g c =
    let l = c.loop-bytes in
    let moved = c.in-Ok-Bytes.ensures.moved in
    let from : length l.bytes.items ≡ c.len-from.result = omega (arith, c.len-from.ensures, l.bytes.ok.0) in
    record {
      moved = Moves-trans (g.S.Source.left c.args.source.now) (g.S.Source.left l.source) (g.S.Source.left c.read_more.new.src) c.args.bytes.now.items l.bytes.items c.read_more.new.buf.items l.invariant.moved moved;
      within = c.in-Ok-Bytes.ensures.within;
      lacks = lacks_still c.args.wait l.bytes.items moved.0 c.read_more.new.buf.items c.deref.result.now c.len-from.result c.has_come.result moved.1 from c.deref.ensures.value l.invariant.lacks c.has_come.ensures c.if-has_come.false;
      room = inr (omega (arith, c.in-Ok-Bytes.ensures.within, c.len.ensures));
      never_falls = omega (arith, l.invariant.never_falls, c.in-Ok-Bytes.ensures.never_falls);
    }
