use Rattle.std.proofs.Common.{◌≡◌}
use Rattle.publish.proofs.readers.Reader.refresh.Given as goal

abbrev pub invariant-loop : goal.invariant-loop
invariant-loop g l = l.self ≡ l.initial.self
