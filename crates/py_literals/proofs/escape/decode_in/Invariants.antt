use Rattle.std.proofs.Common.{◌≡◌, ◌+◌, ◌≤◌, length, vec_len, vec_capacity}
use Rattle.py_literals.specs.Escape.{decoded, behind}
use Rattle.py_literals.proofs.escape.decode_in.Given as goal

abbrev pub invariant-pieces : goal.invariant-pieces
invariant-pieces l = record {
  room : vec_len l.value + length l.rest ≤ vec_capacity l.value;
  place : l.offset + length l.rest ≡ length l.body;
  same : behind l.value.items l.offset (decoded l.kind l.rest) ≡ decoded l.kind l.body;
}

abbrev pub decreases-pieces : goal.decreases-pieces
decreases-pieces l = length l.rest
