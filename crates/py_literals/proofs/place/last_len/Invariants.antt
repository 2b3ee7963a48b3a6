use Rattle.std.proofs.Common.{◌≡◌, ◌≤◌, false, length, drop}
use Rattle.std.specs.List.{list_any}
use Rattle.py_literals.specs.Place.{is_line_feed}
use Rattle.py_literals.proofs.place.last_len.Given as goal

abbrev pub invariant-loop-before : goal.invariant-loop-before
invariant-loop-before l = record {
  within : l.before ≤ length l.chars;
  none : list_any is_line_feed (drop l.before l.chars) ≡ false;
}

abbrev pub decreases-loop-before : goal.decreases-loop-before
decreases-loop-before l = l.before
