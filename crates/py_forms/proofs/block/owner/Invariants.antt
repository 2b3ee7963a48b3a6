use Rattle.std.proofs.Common.{◌≡◌, ◌+◌, ◌≤◌, length}
use Rattle.py_forms.specs.Parts.{kinds_back, owner}
use Rattle.py_forms.proofs.block.owner.Given as goal

abbrev pub invariant-back : goal.invariant-back
invariant-back l = record {
  same : owner l.closed (kinds_back l.rest) ≡ owner 0 (kinds_back l.run);
  room : l.closed + length l.rest ≤ length l.run;
}

abbrev pub decreases-back : goal.decreases-back
decreases-back l = length l.rest
