use Rattle.std.proofs.Common.{◌≡◌, ◌+◌, ◌≤◌, drop}
use Rattle.py_literals.specs.Place.{line_feeds}
use Rattle.py_literals.proofs.place.line_feeds.Given as goal

abbrev pub invariant-loop-c : goal.invariant-loop-c
invariant-loop-c l = record {
  few : l.lines ≤ l.c-index;
  same : l.lines + line_feeds (drop l.c-index l.chars) ≡ line_feeds l.chars;
}
