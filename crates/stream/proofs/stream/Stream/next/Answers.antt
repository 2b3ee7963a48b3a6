use Rattle.std.proofs.Common.{◌+◌, List, ℕ, drop, ◌++◌, ap, sym, subst, ◌∙◌}
use Rattle.std.proofs.lemmas.Result.{err_from_is_err_and}
use Rattle.std.specs.Prelude.{slice_range}
use Rattle.script.specs.Grammar.{Spells}
use Rattle.script.specs.Stream.{BeginsNone}
use Rattle.stream.specs.State.{State, IsNeeded}
use Rattle.stream.specs.declared.fault.StreamFault.TheVariants.{TooLong}
use Rattle.stream.proofs.Reached.{not_refused}
use Rattle.stream.proofs.Held.{last_is, held_given, held_none, kept_by, took_by, all_taken, parts_of, same_fault}
use Rattle.stream.proofs.stream.Stream.next.Goals as goal

-- ---- after an error

pub returns-in_err-command-clause-kept : goal.returns-in_err-command-clause-kept
returns-in_err-command-clause-kept g c =
    let left = g.S.Source.left in
    let n = c.read_next-answer.new in
    let old = drop c.self.inside.start c.self.inside.bytes.items in
    let now = drop n.start n.bytes.items in
    let parts = parts_of c.in_err-command.field-0.0 (left c.args.source.now) (left n.source) old now c.in_err-command.ensures.moved c.in_err-command.ensures.one_more in
    kept_by c.args.self.now.pending old now (slice_range n.bytes.items n.start n.start ++ now) parts.0 (sym (ap (λ (s : State). s.pending) c.self.view_is)) (held_none n.bytes.items n.start) parts.1

pub returns-in_err-command-clause-took : goal.returns-in_err-command-clause-took
returns-in_err-command-clause-took g c =
    let left = g.S.Source.left in
    let n = c.read_next-answer.new in
    let old = drop c.self.inside.start c.self.inside.bytes.items in
    let now = drop n.start n.bytes.items in
    let p = err_from_is_err_and c.from_residual.result c.from_residual.ensures.1 in
    rw (p.1, p.2) (λ other. took_by (left c.args.source.now) (left n.source) c.args.self.now.pending old now (slice_range n.bytes.items n.start n.start ++ now) (sym (ap (λ (s : State). s.pending) c.self.view_is)) (held_none n.bytes.items n.start)
    (c.in_err-command.ensures.moved (λ e. other (same_fault c.in_err-command.field-0.0 TooLong e))))

pub returns-in_err-command-clause-ended : goal.returns-in_err-command-clause-ended
returns-in_err-command-clause-ended g c = λ goes_on ends. (
    let left = g.S.Source.left in
    let n = c.read_next-answer.new in
    let old = drop c.self.inside.start c.self.inside.bytes.items in
    let now = drop n.start n.bytes.items in
    let all = c.in_err-command.ensures.ended (ap (λ (s : State). s.over) c.self.view_is ∙ goes_on) ends in (
      all_taken (left c.args.source.now) c.args.self.now.pending old now (slice_range n.bytes.items n.start n.start ++ now) (sym (ap (λ (s : State). s.pending) c.self.view_is)) (held_none n.bytes.items n.start) all.0,
      subst (λ (x : List ℕ). BeginsNone 0 x) (sym (held_none n.bytes.items n.start)) all.1,
    ))

-- ---- where a command is given

pub returns-clause-kept : goal.returns-clause-kept
returns-clause-kept g c =
    let n = c.read_next-answer.new in
    let len = c.in_ok-command.len in
    let old = drop c.self.inside.start c.self.inside.bytes.items in
    let moved = c.in_ok-command.ensures.moved (λ e. cc) in
    kept_by c.args.self.now.pending old (drop n.start n.bytes.items) (slice_range n.bytes.items n.start (n.start + len) ++ drop (n.start + len) n.bytes.items) moved.0 (sym (ap (λ (s : State). s.pending) c.self.view_is)) (held_given n.bytes.items n.start len) moved.1

pub returns-clause-took : goal.returns-clause-took
returns-clause-took g c = λ other. (
    let left = g.S.Source.left in
    let n = c.read_next-answer.new in
    let len = c.in_ok-command.len in
    let old = drop c.self.inside.start c.self.inside.bytes.items in
    took_by (left c.args.source.now) (left n.source) c.args.self.now.pending old (drop n.start n.bytes.items) (slice_range n.bytes.items n.start (n.start + len) ++ drop (n.start + len) n.bytes.items) (sym (ap (λ (s : State). s.pending) c.self.view_is)) (held_given n.bytes.items n.start len)
    (c.in_ok-command.ensures.moved (λ e. cc)))

pub returns-clause-needed : goal.returns-clause-needed
returns-clause-needed g c =
    let n = c.read_next-answer.new in
    let len = c.in_ok-command.len in
    let pending = ap (λ (s : State). s.pending) c.self.view_is in
    subst (λ (x : List ℕ). IsNeeded x (slice_range n.bytes.items n.start (n.start + len) ++ drop (n.start + len) n.bytes.items)) pending
    (subst (λ (x : List ℕ). IsNeeded (drop c.self.inside.start c.self.inside.bytes.items) x) (sym (held_given n.bytes.items n.start len)) c.in_ok-command.ensures.needed)

pub returns-clause-refused : goal.returns-clause-refused
returns-clause-refused g c = λ none ends memory. (
    let n = c.read_next-answer.new in
    let len = c.in_ok-command.len in
    let spells = subst (λ (x : List ℕ). Spells 0 x c.in_ok-command.command) (sym (last_is n.bytes.items n.start len)) c.in_ok-command.ensures.found.1 in
    absurd (not_refused (slice_range n.bytes.items n.start (n.start + len)) (drop (n.start + len) n.bytes.items) c.in_ok-command.command spells none))

pub returns-clause-ended : goal.returns-clause-ended
returns-clause-ended g c = λ goes_on ends. (
    let left = g.S.Source.left in
    let n = c.read_next-answer.new in
    let len = c.in_ok-command.len in
    let old = drop c.self.inside.start c.self.inside.bytes.items in
    let all = c.in_ok-command.ensures.ended (ap (λ (s : State). s.over) c.self.view_is ∙ goes_on) ends in (
      all_taken (left c.args.source.now) c.args.self.now.pending old (drop n.start n.bytes.items) (slice_range n.bytes.items n.start (n.start + len) ++ drop (n.start + len) n.bytes.items) (sym (ap (λ (s : State). s.pending) c.self.view_is)) (held_given n.bytes.items n.start len) all.0,
      subst (λ (x : List ℕ). BeginsNone 0 x) (sym (held_given n.bytes.items n.start len)) all.1,
    ))
