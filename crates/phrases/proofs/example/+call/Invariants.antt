use Rattle.std.proofs.Common.{◌+◌, ◌*◌}
use Rattle.phrases.proofs.example.+call.Given as goal

abbrev pub decreases-call_of : goal.decreases-call_of
decreases-call_of l = 8 * l.room + 2

abbrev pub decreases-arguments_of : goal.decreases-arguments_of
decreases-arguments_of l = 8 * l.room + 1

abbrev pub decreases-items_of : goal.decreases-items_of
decreases-items_of l = 8 * l.room + 6

abbrev pub decreases-item_of : goal.decreases-item_of
decreases-item_of l = 8 * l.room + 4

abbrev pub decreases-argument_of : goal.decreases-argument_of
decreases-argument_of l = 8 * l.room + 3

abbrev pub decreases-items_of-series+arg5 : goal.decreases-items_of-series+arg5
decreases-items_of-series+arg5 l = 8 * l.room + 5
