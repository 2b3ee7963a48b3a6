use Rattle.std.proofs.Common.{◌≤◌, ◌++◌, Option, sym, ap, subst, arith}
use Rattle.rv_names.specs.Keys.{Bytes}
use Rattle.rv_io.specs.Counts.{Rises}
use Rattle.rv_io.proofs.Steps.{Rises-later}
use Rattle.check_stream.specs.declared.turn.Turn.{Turn}
use Rattle.check_stream.specs.Sends.{Breaks, Sends, Writes}
use Rattle.check_stream.specs.Turns.{Turns}
use Rattle.check_stream.proofs.Steps.{spells_long}
use Rattle.check_stream.proofs.Reached.{reached_first, reached_next, reached_writes}
use Rattle.check_stream.proofs.Ended.{ended_last, ended_memory, ended_breaking, Did, TakesIn}
use Rattle.check_stream.proofs.checking.take_turns.Goals as goal

pub loop-lines-init : goal.loop-lines-init
loop-lines-init g c = record {
  reached = reached_first (g.S.Source.left c.args.source.now) (g.K.Sink.held c.args.sink.now) c.new-due.result.items c.new-stream.result c.args.session.now c.new-due.ensures.items c.new-stream.ensures c.requires;
  source_never_falls = omega arith;
  sink_never_falls = omega arith;
}

pub loop-lines-preserved : goal.loop-lines-preserved
loop-lines-preserved g c =
    let left = g.S.Source.left in
    let held = g.K.Sink.held in
    let faults = g.S.Source.faults in
    let l = c.loop-lines in
    let n = c.next_turn.new in
    let lines = c.in-Ok-Lines.lines.items in
    let told = c.in-Ok-Lines.ensures in
    let turns = subst (λ (t : Turn). Turns (Rises (faults l.source) (faults n.source)) l.session n.session l.stream n.stream t) c.in-Ok-Lines.field-0-is told.turns in
    let takes = subst (λ (t : Turn). TakesIn (left l.source) (left n.source) l.stream n.stream t) c.in-Ok-Lines.field-0-is told.takes in
    let first = reached_writes (left c.args.source.now) (left l.source) (held c.args.sink.now) (held l.sink) (held n.sink) l.due.items n.due.items l.stream l.session l.invariant.reached (told.writes (λ e. cc)) in
    let next = reached_next (left c.args.source.now) (left l.source) (left n.source) (held c.args.sink.now) (held n.sink) n.due.items l.stream n.stream l.session n.session lines turns.0 first (told.steps (λ e. cc)) takes turns.1 turns.2 in
    let posted = subst (λ (t : Bytes). Writes (held n.sink) (held c.post.new.sink) (n.due.items ++ t) c.post.new.due.items) c.deref.ensures.value c.in-Ok.ensures.ok in
    record {
      reached = reached_writes (left c.args.source.now) (left n.source) (held c.args.sink.now) (held n.sink) (held c.post.new.sink) (n.due.items ++ lines) c.post.new.due.items n.stream n.session next posted;
      source_never_falls = omega (arith, l.invariant.source_never_falls, told.source_never_falls);
      sink_never_falls = omega (arith, l.invariant.sink_never_falls, told.sink_never_falls, c.in-Ok.ensures.never_falls);
    }

pub loop-lines-smaller : goal.loop-lines-smaller
loop-lines-smaller g c =
    let faults = g.S.Source.faults in
    let l = c.loop-lines in
    let n = c.next_turn.new in
    let turns = subst (λ (t : Turn). Turns (Rises (faults l.source) (faults n.source)) l.session n.session l.stream n.stream t) c.in-Ok-Lines.field-0-is c.in-Ok-Lines.ensures.turns in
    let steps = c.in-Ok-Lines.ensures.steps (λ e. cc) in
    omega (arith, steps.place, steps.within, spells_long n.stream.last turns.0 turns.1)

pub returns-in-Err-clause-checked : goal.returns-in-Err-clause-checked
returns-in-Err-clause-checked g c =
    let left = g.S.Source.left in
    let held = g.K.Sink.held in
    let faults = g.S.Source.faults in
    let falls = g.K.Sink.faults in
    let l = c.loop-lines in
    let n = c.next_turn.new in
    let lines = c.in-Ok-Lines.lines.items in
    let told = c.in-Ok-Lines.ensures in
    let fell = Rises (falls n.sink) (falls c.post.new.sink) in
    let turns = subst (λ (t : Turn). Turns (Rises (faults l.source) (faults n.source)) l.session n.session l.stream n.stream t) c.in-Ok-Lines.field-0-is told.turns in
    let takes = subst (λ (t : Turn). TakesIn (left l.source) (left n.source) l.stream n.stream t) c.in-Ok-Lines.field-0-is told.takes in
    let first = reached_writes (left c.args.source.now) (left l.source) (held c.args.sink.now) (held l.sink) (held n.sink) l.due.items n.due.items l.stream l.session l.invariant.reached (told.writes (λ e. cc)) in
    let next = reached_next (left c.args.source.now) (left l.source) (left n.source) (held c.args.sink.now) (held n.sink) n.due.items l.stream n.stream l.session n.session lines turns.0 first (told.steps (λ e. cc)) takes turns.1 turns.2 in
    let breaks = subst (λ (t : Bytes). Breaks (held n.sink) (held c.post.new.sink) (n.due.items ++ t) fell) c.deref.ensures.value c.in-Err.ensures.err in
    let not_fallen : falls c.args.sink.now ≤ falls n.sink = omega (arith, l.invariant.sink_never_falls, told.sink_never_falls) in
    ended_breaking (left c.args.source.now) (left n.source) (held c.args.sink.now) (held n.sink) (held c.post.new.sink) (n.due.items ++ lines) n.stream n.session
    (Rises (faults c.args.source.now) (faults n.source)) fell (Rises (falls c.args.sink.now) (falls c.post.new.sink)) next breaks (λ rose. Rises-later (falls c.args.sink.now) (falls n.sink) (falls c.post.new.sink) not_fallen rose)

pub returns-in-Ok-Last-clause-checked : goal.returns-in-Ok-Last-clause-checked
returns-in-Ok-Last-clause-checked g c =
    let left = g.S.Source.left in
    let held = g.K.Sink.held in
    let faults = g.S.Source.faults in
    let falls = g.K.Sink.faults in
    let l = c.loop-lines in
    let n = c.next_turn.new in
    let lines = c.in-Ok-Last.lines.items in
    let told = c.in-Ok-Last.ensures in
    let fell = Rises (falls n.sink) (falls c.send_last.new.sink) in
    let turns = subst (λ (t : Turn). Turns (Rises (faults l.source) (faults n.source)) l.session n.session l.stream n.stream t) c.in-Ok-Last.field-0-is told.turns in
    let takes = subst (λ (t : Turn). TakesIn (left l.source) (left n.source) l.stream n.stream t) c.in-Ok-Last.field-0-is told.takes in
    let first = reached_writes (left c.args.source.now) (left l.source) (held c.args.sink.now) (held l.sink) (held n.sink) l.due.items n.due.items l.stream l.session l.invariant.reached (told.writes (λ e. cc)) in
    let sent = c.send_last.ensures.sent in
    let sends = subst (λ (t : Bytes). Sends c.in-Ok-Last.status (n.due.items ++ t) c.send_last.result sent.0 fell) c.deref-in-Ok-Last.ensures.value sent.2 in
    let not_fallen : falls c.args.sink.now ≤ falls n.sink = omega (arith, l.invariant.sink_never_falls, told.sink_never_falls) in
    ended_last (left c.args.source.now) (left l.source) (left n.source) (held c.args.sink.now) (held n.sink) (held c.send_last.new.sink) (faults c.args.source.now) (faults l.source) (faults n.source)
    n.due.items l.stream n.stream l.session lines c.in-Ok-Last.status c.send_last.result fell (Rises (falls c.args.sink.now) (falls c.send_last.new.sink))
    first (told.steps (λ e. cc)) takes l.invariant.source_never_falls turns (λ rose. Rises-later (falls c.args.sink.now) (falls n.sink) (falls c.send_last.new.sink) not_fallen rose)
    (record { out = sent.0; wrote = sent.1; sends = sends })

pub returns-in-Err-Memory-clause-checked : goal.returns-in-Err-Memory-clause-checked
returns-in-Err-Memory-clause-checked g c =
    let left = g.S.Source.left in
    let held = g.K.Sink.held in
    let faults = g.S.Source.faults in
    let falls = g.K.Sink.faults in
    let l = c.loop-lines in
    let n = c.next_turn.new in
    let told = c.in-Err-Memory.ensures in
    let fell = Rises (falls n.sink) (falls c.send.new.sink) in
    let first = reached_writes (left c.args.source.now) (left l.source) (held c.args.sink.now) (held l.sink) (held n.sink) l.due.items n.due.items l.stream l.session l.invariant.reached (told.writes (λ e. cc)) in
    let sent = c.send.ensures.sent in
    let sends = subst (λ (t : Bytes). Sends 6 t c.send.result sent.0 fell) c.deref-in-Err-Memory.ensures.value sent.2 in
    let not_fallen : falls c.args.sink.now ≤ falls n.sink = omega (arith, l.invariant.sink_never_falls, told.sink_never_falls) in
    ended_memory (left c.args.source.now) (left l.source) (left n.source) (held c.args.sink.now) (held n.sink) (held c.send.new.sink) n.due.items l.stream n.stream l.session c.send.result
    (Rises (faults c.args.source.now) (faults n.source)) fell (Rises (falls c.args.sink.now) (falls c.send.new.sink)) first (told.steps (λ e. cc))
    (λ rose. Rises-later (falls c.args.sink.now) (falls n.sink) (falls c.send.new.sink) not_fallen rose) (record { out = sent.0; wrote = sent.1; sends = sends })

pub returns-in-Err-Sink-clause-checked : goal.returns-in-Err-Sink-clause-checked
returns-in-Err-Sink-clause-checked g c =
    let left = g.S.Source.left in
    let held = g.K.Sink.held in
    let faults = g.S.Source.faults in
    let falls = g.K.Sink.faults in
    let l = c.loop-lines in
    let n = c.next_turn.new in
    let failed = Rises (faults c.args.source.now) (faults n.source) in
    let later = Rises (falls c.args.sink.now) (falls n.sink) in
    let breaks = c.in-Err-Sink.ensures.breaks cc in
    subst (λ (x : Option Bytes). Did 5 (left c.args.source.now) x (held c.args.sink.now) (held n.sink) failed later) (sym (ap left breaks.0))
    (ended_breaking (left c.args.source.now) (left l.source) (held c.args.sink.now) (held l.sink) (held n.sink) l.due.items l.stream l.session failed (Rises (falls l.sink) (falls n.sink)) later
    l.invariant.reached breaks.1 (λ rose. Rises-later (falls c.args.sink.now) (falls l.sink) (falls n.sink) l.invariant.sink_never_falls rose))
