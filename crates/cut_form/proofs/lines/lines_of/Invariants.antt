use Rattle.std.proofs.Common.{◌≡◌, ◌++◌, drop}
use Rattle.std.specs.List.{flat_map}
use Rattle.cut_form.specs.Reports.{issue_line}
use Rattle.cut_form.proofs.lines.lines_of.Given as goal

abbrev pub invariant-loop-place : goal.invariant-loop-place
invariant-loop-place l = l.lines.items ++ flat_map (issue_line l.function) (drop l.place-index l.places) ≡ l.initial.lines.items ++ flat_map (issue_line l.function) l.places
