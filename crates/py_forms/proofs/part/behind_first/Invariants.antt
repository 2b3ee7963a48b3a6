use Rattle.std.proofs.Common.{◌≡◌, ◌+◌, ◌≤◌, length}
use Rattle.py_forms.specs.Parts.{behind_first}
use Rattle.py_forms.proofs.part.behind_first.Given as goal

abbrev pub invariant-onward : goal.invariant-onward
invariant-onward l = record {
  same : behind_first l.parting l.depth l.rest ≡ behind_first l.parting 0 l.tokens;
  room : l.depth + length l.rest ≤ length l.tokens;
}

abbrev pub decreases-onward : goal.decreases-onward
decreases-onward l = length l.rest
