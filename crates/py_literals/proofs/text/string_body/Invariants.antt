use Rattle.std.proofs.Common.{◌≡◌, ◌+◌, length}
use Rattle.py_literals.proofs.Turns.{further}
use Rattle.py_literals.specs.Text.{body_len}
use Rattle.py_literals.proofs.text.string_body.Given as goal

abbrev pub invariant-items : goal.invariant-items
invariant-items l = record {
  place : l.len + length l.rest ≡ length l.chars;
  same : further l.len (body_len l.kind l.rest) ≡ body_len l.kind l.chars;
}

abbrev pub decreases-items : goal.decreases-items
decreases-items l = length l.rest
