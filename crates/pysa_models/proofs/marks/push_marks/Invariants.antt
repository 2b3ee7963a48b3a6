use Rattle.std.proofs.Common.{◌≡◌, ◌++◌, drop}
use Rattle.pysa_models.specs.Marks.{marks_of}
use Rattle.pysa_models.proofs.marks.push_marks.Given as goal

-- what was added, and what is still to be added, is all
abbrev pub invariant-loop-declared : goal.invariant-loop-declared
invariant-loop-declared l = l.known ++ marks_of l.config l.leaf (drop l.declared-index l.marks) ≡ l.initial.known ++ marks_of l.config l.leaf l.marks
