use Rattle.std.proofs.Common.{◌≡◌, ◌+◌, ◌≤◌, length}
use Rattle.py_forms.specs.Roles.{back_of}
use Rattle.py_forms.specs.Levels.{waits_for_else}
use Rattle.py_forms.proofs.level.waits_for_else.Given as goal

abbrev pub invariant-outward : goal.invariant-outward
invariant-outward l = record {
  same : waits_for_else l.closed (back_of l.rest) ≡ waits_for_else 0 (back_of l.run);
  room : l.closed + length l.rest ≤ length l.run;
}

abbrev pub decreases-outward : goal.decreases-outward
decreases-outward l = length l.rest
