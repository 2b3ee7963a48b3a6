use Rattle.std.proofs.Common.{◌≡◌, ◌≤◌, length, take, vec_len, vec_capacity}
use Rattle.py_lexer.proofs.source.widened.Given as goal

abbrev pub invariant-loop-byte : goal.invariant-loop-byte
invariant-loop-byte l = record {
  len : vec_len l.chars ≡ l.byte-index;
  room : length l.bytes ≤ vec_capacity l.chars;
  same : l.chars.items ≡ take l.byte-index l.bytes;
}
