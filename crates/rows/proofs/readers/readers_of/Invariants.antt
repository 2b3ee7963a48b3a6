use Rattle.std.proofs.Common.{◌≡◌, vec_len}
use Rattle.rows.specs.Reading.{IsIndex}
use Rattle.rows.proofs.readers.readers_of.Given as goal

abbrev pub invariant-loop-i : goal.invariant-loop-i
invariant-loop-i l = record {
  nodes : vec_len l.last ≡ l.nodes;
  index : IsIndex l.rows l.i l.last.items l.before.items;
}
