use Rattle.std.proofs.Common.{◌≡◌, ◌+◌, drop}
use Rattle.std.specs.List.{prefix_len}
use Rattle.rv_names.specs.Identifier.{is_identifier_continue}
use Rattle.py_lexer.proofs.chars.name_len.Given as goal

abbrev pub invariant-loop-c : goal.invariant-loop-c
invariant-loop-c l = record {
  len : l.len ≡ l.c-index;
  same : l.len + prefix_len is_identifier_continue (drop l.c-index l.chars) ≡ prefix_len is_identifier_continue l.chars;
}
