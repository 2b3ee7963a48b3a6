use Rattle.std.proofs.Common.{◌≡◌, ◌+◌, length}
use Rattle.py_lexer.specs.Margin.{gap_len}
use Rattle.py_lexer.proofs.margin.gap_len.Given as goal

abbrev pub invariant-gap : goal.invariant-gap
invariant-gap l = record {
  place : l.len + length l.rest ≡ length l.chars;
  same : l.len + gap_len l.rest ≡ gap_len l.chars;
}

abbrev pub decreases-gap : goal.decreases-gap
decreases-gap l = length l.rest
