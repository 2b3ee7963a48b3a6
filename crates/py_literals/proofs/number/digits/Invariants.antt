use Rattle.std.proofs.Common.{◌≡◌, ◌+◌, length}
use Rattle.py_literals.specs.Number.{digits_len}
use Rattle.py_literals.proofs.number.digits.Given as goal

abbrev pub invariant-runs : goal.invariant-runs
invariant-runs l = record {
  place : l.len + length l.rest ≡ length l.chars;
  same : l.len + digits_len l.base l.rest ≡ digits_len l.base l.chars;
}

abbrev pub decreases-runs : goal.decreases-runs
decreases-runs l = length l.rest
