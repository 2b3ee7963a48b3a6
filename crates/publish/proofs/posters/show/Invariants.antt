use Rattle.std.proofs.Common.{◌≡◌, drop}
use Rattle.left_right.specs.Sides.{view}
use Rattle.publish.proofs.posters.show.Given as goal

abbrev pub invariant-loop : goal.invariant-loop
invariant-loop g l = (drop l.writer.behind l.writer.log.items ≡ drop l.initial.writer.behind l.initial.writer.log.items) × (l.writer.desk.shown.value ≡ l.initial.writer.desk.shown.value) × (view l.writer.desk.place ≡ view l.initial.writer.desk.place)
