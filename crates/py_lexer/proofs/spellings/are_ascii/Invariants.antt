use Rattle.std.proofs.Common.{◌≡◌, take}
use Rattle.std.specs.List.{list_all}
use Rattle.py_lexer.specs.Spellings.{is_ascii}
use Rattle.py_lexer.proofs.spellings.are_ascii.Given as goal

abbrev pub invariant-loop-c : goal.invariant-loop-c
invariant-loop-c l = l.plain ≡ list_all is_ascii (take l.c-index l.chars)
