use Rattle.std.proofs.Common.{◌≡◌, ◌<◌, ◌^◌, drop}
use Rattle.py_literals.specs.Number.{value_after}
use Rattle.py_literals.proofs.number.value_of.Given as goal

abbrev pub invariant-loop-c : goal.invariant-loop-c
invariant-loop-c l = record {
  small : l.value < 2 ^ 127;
  same : value_after l.base l.value (drop l.c-index l.digits) ≡ value_after l.base 0 l.digits;
}
