use Rattle.std.proofs.Common.{◌≤◌, length}
use Rattle.py_ast.specs.Grammar.{Whole, nested}
use Rattle.py_expr.proofs.Calls.{ArgumentsLeft}
use Rattle.py_expr.proofs.primary.call_from.Given as goal

abbrev pub invariant-each_argument : goal.invariant-each_argument
invariant-each_argument g l = (length l.rest ≤ length l.fn.tokens) × ArgumentsLeft (nested l.fn.room Whole) l.fn.first l.fn.tokens l.all l.state l.rest

abbrev pub decreases-each_argument : goal.decreases-each_argument
decreases-each_argument g l = length l.rest
