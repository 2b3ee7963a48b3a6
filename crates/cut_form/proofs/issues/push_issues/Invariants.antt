use Rattle.std.proofs.Common.{◌≡◌, ◌++◌, drop}
use Rattle.cut_form.specs.Issues.{issues_in}
use Rattle.cut_form.proofs.issues.push_issues.Given as goal

abbrev pub invariant-loop-index : goal.invariant-loop-index
invariant-loop-index l = l.places ++ issues_in (drop l.index l.calls) ≡ l.initial.places ++ issues_in l.calls
