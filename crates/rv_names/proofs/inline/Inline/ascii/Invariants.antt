use Rattle.std.proofs.Common.{◌≡◌, length, take}
use Rattle.std.specs.Prelude.{IsAscii}
use Rattle.rv_names.proofs.inline.Inline.ascii.Given as goal

abbrev pub invariant-loop-i : goal.invariant-loop-i
invariant-loop-i l = record {
  room : length l.bytes ≡ 22;
  same : take l.i l.bytes ≡ take l.i l.text;
  ascii : IsAscii (take l.i l.text);
}
