use Rattle.std.proofs.Common.{◌≡◌, not, take}
use Rattle.std.specs.List.{list_any}
use Rattle.py_literals.specs.Text.{is_mark}
use Rattle.py_literals.proofs.text.has_mark.Given as goal

abbrev pub invariant-loop-c : goal.invariant-loop-c
invariant-loop-c l = record {
  found : l.found ≡ list_any (is_mark l.kind) (take l.c-index l.chars);
  quote : l.quote ≡ l.kind.quote;
  one_line : l.one_line ≡ not l.kind.triple;
}
