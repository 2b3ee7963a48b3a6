use Rattle.std.proofs.Common.{◌≡◌, length}
use Rattle.publish.proofs.tests.fronts.numbers_below.Given as goal

abbrev pub invariant-loop-number : goal.invariant-loop-number
invariant-loop-number l = length l.all.items ≡ l.number
