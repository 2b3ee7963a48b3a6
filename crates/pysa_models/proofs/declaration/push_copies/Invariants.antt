use Rattle.std.proofs.Common.{◌≡◌, ◌++◌, take}
use Rattle.pysa_models.proofs.declaration.push_copies.Given as goal

abbrev pub invariant-loop-mark : goal.invariant-loop-mark
invariant-loop-mark l = l.copies ≡ l.initial.copies ++ take l.mark-index l.marks
