use Rattle.std.proofs.Common.{◌≡◌, ◌==◌, take}
use Rattle.std.specs.List.{list_any}
use Rattle.py_lexer.proofs.strings.has_backslash.Given as goal

abbrev pub invariant-loop-c : goal.invariant-loop-c
invariant-loop-c l = l.found ≡ list_any (λ c. c == 92) (take l.c-index l.body)
