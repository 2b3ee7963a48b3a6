use Rattle.std.proofs.Common.{◌≡◌, ◌++◌, length, reverse}
use Rattle.py_ast.specs.Trees.{parts_of}
use Rattle.py_expr.proofs.strings.parts_of.Given as goal

abbrev pub decreases-loop-piece : goal.decreases-loop-piece
decreases-loop-piece l = length l.rest

abbrev pub invariant-loop-piece : goal.invariant-loop-piece
invariant-loop-piece l = l.parts ++ parts_of (reverse l.rest) ≡ parts_of l.fn.pieces
