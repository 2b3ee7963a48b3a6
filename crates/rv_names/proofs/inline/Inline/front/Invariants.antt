use Rattle.std.proofs.Common.{◌≡◌, true, length, take}
use Rattle.std.specs.Prelude.{IsAscii}
use Rattle.rv_names.proofs.inline.Inline.front.Given as goal

abbrev pub invariant-loop-i : goal.invariant-loop-i
invariant-loop-i l = record {
  room : length l.bytes ≡ 22;
  same : l.plain ≡ true → take l.i l.bytes ≡ take l.i l.chars;
  ascii : l.plain ≡ true → IsAscii (take l.i l.chars);
}
