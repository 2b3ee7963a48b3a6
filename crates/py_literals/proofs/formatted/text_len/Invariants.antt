use Rattle.std.proofs.Common.{◌≡◌, ◌+◌, length}
use Rattle.py_literals.specs.Formatted.{text_len}
use Rattle.py_literals.proofs.formatted.text_len.Given as goal

abbrev pub invariant-texts : goal.invariant-texts
invariant-texts l = record {
  place : l.len + length l.rest ≡ length l.chars;
  same : l.len + text_len l.rest ≡ text_len l.chars;
}

abbrev pub decreases-texts : goal.decreases-texts
decreases-texts l = length l.rest
