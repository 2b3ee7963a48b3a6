use Rattle.std.proofs.Common.{List, ℕ, drop, ◌++◌, ap, sym, subst, ◌∙◌}
use Rattle.std.specs.Prelude.{slice_range}
use Rattle.script.specs.Stream.{BeginsNone}
use Rattle.stream.specs.State.{State}
use Rattle.stream.proofs.Held.{held_none, all_taken}
use Rattle.stream.proofs.stream.Stream.peek.Goals as goal

pub returns-clause-ended : goal.returns-clause-ended
returns-clause-ended g c = λ goes_on ends. (
    let n = c.read_first-asked.new in
    let old = drop c.self.inside.start c.self.inside.bytes.items in
    let now = drop n.start n.bytes.items in
    let all = c.in_ok-asked.ensures.ended (ap (λ (s : State). s.over) c.self.view_is ∙ goes_on) ends in (
      all_taken (g.S.Source.left c.args.source.now) c.args.self.now.pending old now (slice_range n.bytes.items n.start n.start ++ now) (sym (ap (λ (s : State). s.pending) c.self.view_is)) (held_none n.bytes.items n.start) all.0,
      subst (λ (x : List ℕ). BeginsNone 0 x) (sym (held_none n.bytes.items n.start)) all.1,
    ))
