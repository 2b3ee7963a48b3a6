use Rattle.std.proofs.Common.{◌≡◌, ◌++◌, drop, option_map}
use Rattle.cut_form.specs.Bodies.{line_nests}
use Rattle.cut_form.specs.Issues.{issues_of}
use Rattle.cut_form.proofs.bodies.line_places.Given as goal

abbrev pub invariant-loop-stmt : goal.invariant-loop-stmt
invariant-loop-stmt l = option_map (λ nests. l.places ++ issues_of nests) (line_nests l.function (drop l.stmt-index l.body))
    ≡ option_map issues_of (line_nests l.function l.body)
