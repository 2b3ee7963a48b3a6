use Rattle.std.proofs.Common.{◌≡◌, ◌≤◌, length}
use Rattle.py_forms.specs.Parts.{kinds_back}
use Rattle.later_forms.specs.Later.{line_begin}
use Rattle.later_forms.proofs.later.line_begin.Given as goal

abbrev pub invariant-back : goal.invariant-back
invariant-back l = record {
  same : line_begin (kinds_back l.rest) ≡ line_begin (kinds_back l.run);
  room : length l.rest ≤ length l.run;
}

abbrev pub decreases-back : goal.decreases-back
decreases-back l = length l.rest
