use Rattle.std.proofs.Common.{◌≡◌, ◌+◌, length}
use Rattle.py_literals.specs.Escape.{hex_from}
use Rattle.py_literals.proofs.escape.hex.Given as goal

abbrev pub invariant-digits : goal.invariant-digits
invariant-digits l = record {
  place : length l.rest + l.count ≡ length l.chars + l.left;
  same : hex_from l.value l.left l.rest ≡ hex_from 0 l.count l.chars;
}

abbrev pub decreases-digits : goal.decreases-digits
decreases-digits l = l.left
