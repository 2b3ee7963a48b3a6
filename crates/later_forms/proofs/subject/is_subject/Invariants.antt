use Rattle.std.proofs.Common.{◌≡◌, ◌+◌, Some, length}
use Rattle.later_forms.specs.declared.level.Bracket.TheVariants as brackets
use Rattle.later_forms.specs.Nesting.{alone}
use Rattle.later_forms.specs.Subjects.{gone_over}
use Rattle.later_forms.proofs.subject.is_subject.Given as goal

abbrev pub invariant-tokens : goal.invariant-tokens
invariant-tokens l = record {
  same : gone_over l.at (Some l.nesting) l.rest ≡ gone_over 0 (Some (alone 0 brackets.Subject)) l.tokens;
  room : l.at + length l.rest ≡ length l.tokens;
}

abbrev pub decreases-tokens : goal.decreases-tokens
decreases-tokens l = length l.rest
