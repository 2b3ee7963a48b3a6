use Rattle.std.proofs.Common.{◌≡◌, length, drop, All}
use Rattle.std.specs.Arc.{arc_value}
use Rattle.left_right.specs.Sides.{view}
use Rattle.publish.specs.Posts.{posts_of}
use Rattle.publish.specs.Readings.{reading}
use Rattle.publish.proofs.open.seat_all.Given as goal

abbrev pub invariant-loop : goal.invariant-loop
invariant-loop g l =
    (l.writer.desk.shown ≡ l.initial.writer.desk.shown)
    × (view l.writer.desk.place ≡ view l.initial.writer.desk.place)
    × (drop l.writer.behind l.writer.log.items ≡ drop l.initial.writer.behind l.initial.writer.log.items)
    × (length l.readers.items ≡ l.counter)
    × All (λ r. r ≡ reading (posts_of g.R.Numbered.list l.first.sight.seen.book l.first.sight.seen.log) (arc_value l.first.value)) l.readers.items
