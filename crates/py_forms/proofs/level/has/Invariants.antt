use Rattle.std.proofs.Common.{◌≡◌, ◌+◌, ◌≤◌, length}
use Rattle.py_forms.specs.Roles.{back_of}
use Rattle.py_forms.specs.Levels.{has_by}
use Rattle.py_forms.proofs.level.has.Given as goal

abbrev pub invariant-outward : goal.invariant-outward
invariant-outward l = record {
  same : has_by l.closed l.separator (back_of l.rest) ≡ has_by 0 l.separator (back_of l.run);
  room : l.closed + length l.rest ≤ length l.run;
}

abbrev pub decreases-outward : goal.decreases-outward
decreases-outward l = length l.rest
