use Rattle.std.proofs.Common.{◌≡◌, take}
use Rattle.std.specs.Arc.{arc_value}
use Rattle.publish.proofs.tests.fronts.post_all.Given as goal

abbrev pub invariant-loop-len : goal.invariant-loop-len
invariant-loop-len g l = (l.poster.board ≡ l.initial.poster.board) × (l.poster.list ≡ take l.len (arc_value l.all).items)
