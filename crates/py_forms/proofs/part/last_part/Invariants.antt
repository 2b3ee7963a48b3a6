use Rattle.std.proofs.Common.{◌≡◌, ◌+◌, ◌≤◌, length}
use Rattle.py_forms.specs.Parts.{behind_last}
use Rattle.py_forms.proofs.part.last_part.Given as goal

abbrev pub invariant-onward : goal.invariant-onward
invariant-onward l = record {
  same : behind_last l.parting l.depth l.part l.rest ≡ behind_last l.parting 0 l.tokens l.tokens;
  room : l.depth + length l.rest ≤ length l.tokens;
}

abbrev pub decreases-onward : goal.decreases-onward
decreases-onward l = length l.rest
