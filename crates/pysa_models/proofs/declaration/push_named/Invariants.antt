use Rattle.std.proofs.Common.{◌≡◌, ◌++◌, drop}
use Rattle.pysa_models.specs.Joined.{marks_named}
use Rattle.pysa_models.proofs.declaration.push_named.Given as goal

-- what was added, and what is still to be added, is all
abbrev pub invariant-loop-parameter : goal.invariant-loop-parameter
invariant-loop-parameter l = l.marks ++ marks_named l.name (drop l.parameter-index l.parameters) ≡ l.initial.marks ++ marks_named l.name l.parameters
