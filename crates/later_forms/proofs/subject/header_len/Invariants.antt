use Rattle.std.proofs.Common.{◌≡◌, ◌+◌, length}
use Rattle.later_forms.specs.Subjects.{header_len}
use Rattle.later_forms.proofs.subject.header_len.Given as goal

abbrev pub invariant-line : goal.invariant-line
invariant-line l = record {
  same : l.len + header_len l.rest ≡ header_len l.tokens;
  room : l.len + length l.rest ≡ length l.tokens;
}

abbrev pub decreases-line : goal.decreases-line
decreases-line l = length l.rest
