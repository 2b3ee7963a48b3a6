use Rattle.std.proofs.Common.{◌≡◌, ◌<◌, ℕ, true, get_or}
use Rattle.script.specs.Reading.{has}
use Rattle.script.proofs.fields.Kind.span.Given as goal

-- each byte before is of the kind
abbrev pub invariant-loop-i : goal.invariant-loop-i
invariant-loop-i l = (k : ℕ) → k < l.i → has l.self (get_or l.bytes k 0) ≡ true
