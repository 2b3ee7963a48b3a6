use Rattle.std.proofs.Common.{◌≡◌, ◌+◌, ◌≤◌, ◌++◌, true, length, drop, encode_utf8_all, IsAscii, vec_len, vec_capacity}
use Rattle.py_lexer.proofs.spellings.push_ascii.Given as goal

abbrev pub invariant-loop-c : goal.invariant-loop-c
invariant-loop-c l = record {
  room : vec_len l.bytes + length (drop l.c-index l.chars) ≤ vec_capacity l.bytes;
  same : l.plain ≡ true → l.bytes.items ++ encode_utf8_all (drop l.c-index l.chars) ≡ encode_utf8_all l.chars;
  ascii : IsAscii l.bytes.items;
}
