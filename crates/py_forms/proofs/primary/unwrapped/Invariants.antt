use Rattle.std.proofs.Common.{◌≡◌, ◌≤◌, length}
use Rattle.py_forms.specs.Roles.{back_of}
use Rattle.py_forms.specs.Primaries.{unwrapped}
use Rattle.py_forms.proofs.primary.unwrapped.Given as goal

abbrev pub invariant-closed : goal.invariant-closed
invariant-closed l = record {
  same : unwrapped (back_of l.rest) ≡ unwrapped (back_of l.run);
  room : length l.rest ≤ length l.run;
}

abbrev pub decreases-closed : goal.decreases-closed
decreases-closed l = length l.rest
