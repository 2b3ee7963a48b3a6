use Rattle.std.proofs.Common.{◌≡◌, ◌++◌, drop}
use Rattle.std.specs.List.{flat_map}
use Rattle.pysa_models.specs.Joined.{marks_named, parameter_marks}
use Rattle.pysa_models.proofs.declaration.Declaration.parameter_marks.Given as goal

-- what was added, and what is still to be added, is all
abbrev pub invariant-loop-signature : goal.invariant-loop-signature
invariant-loop-signature l = l.marks ++ flat_map (λ s. marks_named l.name s.parameters) (drop l.signature-index l.signature-items) ≡ parameter_marks l.name l.self
