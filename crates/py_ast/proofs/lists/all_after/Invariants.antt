use Rattle.std.proofs.Common.{◌≡◌, ◌++◌, ◌∷◌, length, reverse}
use Rattle.py_ast.specs.Trees.{given}
use Rattle.py_ast.proofs.lists.all_after.Given as goal

abbrev pub decreases-loop-item : goal.decreases-loop-item
decreases-loop-item g l = length l.rest

abbrev pub invariant-loop-item : goal.invariant-loop-item
invariant-loop-item g l = l.all ++ given (reverse l.rest) ≡ l.fn.first ∷ given l.fn.others
