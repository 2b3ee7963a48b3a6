use Rattle.std.proofs.Common.{◌≡◌, take}
use Rattle.pysa_syntax.specs.Grammar.{marks_by}
use Rattle.pysa_syntax.proofs.marks.marks_by.Given as goal

abbrev pub invariant-loop-kind : goal.invariant-loop-kind
invariant-loop-kind l = l.marks ≡ marks_by l.fn.side (take l.kind-index l.kinds)
