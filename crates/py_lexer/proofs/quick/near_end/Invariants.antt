use Rattle.std.proofs.Common.{◌≡◌, ◌+◌, drop}
use Rattle.std.specs.List.{prefix_len}
use Rattle.py_lexer.specs.Quick.{is_plain_in}
use Rattle.py_lexer.proofs.quick.near_end.Given as goal

abbrev pub invariant-loop-c : goal.invariant-loop-c
invariant-loop-c l = record {
  len : l.len ≡ l.c-index;
  same : l.len + prefix_len (is_plain_in l.quote) (drop l.c-index l.rest) ≡ prefix_len (is_plain_in l.quote) l.rest;
}
