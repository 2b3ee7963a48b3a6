use Rattle.std.proofs.Common.{◌≡◌, ◌≤◌, ◌++◌, length, drop, false}
use Rattle.py_lexer.specs.Source.{line_ends}
use Rattle.py_lexer.proofs.source.line_ends.Given as goal

abbrev pub invariant-loop-c : goal.invariant-loop-c
invariant-loop-c l = record {
  same : l.read.items ++ line_ends l.behind_cr (drop l.c-index l.chars) ≡ line_ends false l.chars;
  short : length l.read.items ≤ l.c-index;
}
