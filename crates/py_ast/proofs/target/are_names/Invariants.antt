use Rattle.std.proofs.Common.{◌≡◌, drop}
use Rattle.py_ast.specs.Statements.{are_names}
use Rattle.py_ast.proofs.target.are_names.Given as goal

abbrev pub invariant-loop-expr : goal.invariant-loop-expr
invariant-loop-expr l = are_names (drop l.expr-index l.exprs) ≡ are_names l.exprs
