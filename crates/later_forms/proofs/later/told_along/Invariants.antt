use Rattle.std.proofs.Common.{◌≡◌, ◌+◌, ◌≤◌, Some, length}
use Rattle.later_forms.specs.Nesting.{outside}
use Rattle.later_forms.specs.Later.{told_along, least, nearest}
use Rattle.later_forms.proofs.later.told_along.Given as goal

abbrev pub invariant-line : goal.invariant-line
invariant-line l = record {
  same : nearest l.nearest (told_along l.count l.at (Some l.nesting) l.rest) ≡ least l.limit (told_along l.count l.begin (Some (outside l.begin)) l.tokens);
  room : l.at + length l.rest ≤ l.begin + length l.tokens;
}

abbrev pub decreases-line : goal.decreases-line
decreases-line l = length l.rest
