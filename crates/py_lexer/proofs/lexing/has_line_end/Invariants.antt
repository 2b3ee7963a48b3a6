use Rattle.std.proofs.Common.{◌≡◌, take}
use Rattle.std.specs.List.{list_any}
use Rattle.py_lexer.specs.Chars.{is_line_end}
use Rattle.py_lexer.proofs.lexing.has_line_end.Given as goal

abbrev pub invariant-loop-c : goal.invariant-loop-c
invariant-loop-c l = l.ends ≡ list_any is_line_end (take l.c-index l.chars)
