use Rattle.std.proofs.Common.{◌≡◌, ◌++◌, length, reverse}
use Rattle.py_expr.proofs.strings.reversed.Given as goal

abbrev pub decreases-loop-piece : goal.decreases-loop-piece
decreases-loop-piece l = length l.rest

abbrev pub invariant-loop-piece : goal.invariant-loop-piece
invariant-loop-piece l = l.all ++ reverse l.rest ≡ reverse l.fn.pieces
