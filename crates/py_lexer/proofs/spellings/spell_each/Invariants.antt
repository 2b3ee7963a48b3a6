use Rattle.std.proofs.Common.{◌≡◌, ◌++◌, drop, encode_utf8_all, string_bytes}
use Rattle.py_lexer.proofs.spellings.spell_each.Given as goal

abbrev pub invariant-loop-c : goal.invariant-loop-c
invariant-loop-c l = string_bytes l.spelling ++ encode_utf8_all (drop l.c-index l.text) ≡ encode_utf8_all l.text
