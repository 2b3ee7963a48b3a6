use Rattle.std.proofs.Common.{◌≡◌, ◌++◌, map, filter, drop}
use Rattle.py_ast.specs.Uses.{together, used_in_stmt, used_in_branch}
use Rattle.py_scopes.specs.Listed.{is_wanted}
use Rattle.py_scopes.proofs.statements.+statements.Given as goal

abbrev pub invariant-block-loop-stmt : goal.invariant-block-loop-stmt
invariant-block-loop-stmt l = l.found ++ filter (is_wanted l.wanted) (together (map used_in_stmt (drop l.stmt-index l.stmts))) ≡ l.initial.found ++ filter (is_wanted l.wanted) (together (map used_in_stmt l.stmts))

abbrev pub invariant-branches-loop-item : goal.invariant-branches-loop-item
invariant-branches-loop-item l = l.found ++ filter (is_wanted l.wanted) (together (map used_in_branch (drop l.item-index l.items))) ≡ l.initial.found ++ filter (is_wanted l.wanted) (together (map used_in_branch l.items))
