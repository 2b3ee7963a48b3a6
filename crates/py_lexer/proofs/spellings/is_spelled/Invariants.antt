use Rattle.std.proofs.Common.{◌≡◌, drop}
use Rattle.py_lexer.specs.Spellings.{is_spelled}
use Rattle.py_lexer.proofs.spellings.is_spelled.Given as goal

abbrev pub invariant-loop-i : goal.invariant-loop-i
invariant-loop-i l = is_spelled (drop l.i l.text) (drop l.i l.bytes) ≡ is_spelled l.text l.bytes
