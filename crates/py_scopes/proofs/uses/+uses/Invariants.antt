use Rattle.std.proofs.Common.{◌≡◌, ◌++◌, map, filter, drop}
use Rattle.std.specs.List.{flat_map}
use Rattle.py_ast.specs.Uses.{used_in, as_other, together, used_in_steps, used_in_part, used_in_argument, used_in_compared, used_in_joined, used_in_operand, used_in_pair, used_in_step}
use Rattle.py_scopes.specs.Listed.{is_wanted}
use Rattle.py_scopes.proofs.uses.+uses.Given as goal

abbrev pub invariant-expressions-loop-expr : goal.invariant-expressions-loop-expr
invariant-expressions-loop-expr l = l.found ++ filter (is_wanted l.wanted) (flat_map as_other (map used_in (drop l.expr-index l.exprs))) ≡ l.initial.found ++ filter (is_wanted l.wanted) (flat_map as_other (map used_in l.exprs))

abbrev pub invariant-parts-loop-item : goal.invariant-parts-loop-item
invariant-parts-loop-item l = l.found ++ filter (is_wanted l.wanted) (together (map used_in_part (drop l.item-index l.items))) ≡ l.initial.found ++ filter (is_wanted l.wanted) (together (map used_in_part l.items))

abbrev pub invariant-pairs-loop-item : goal.invariant-pairs-loop-item
invariant-pairs-loop-item l = l.found ++ filter (is_wanted l.wanted) (together (map used_in_pair (drop l.item-index l.items))) ≡ l.initial.found ++ filter (is_wanted l.wanted) (together (map used_in_pair l.items))

abbrev pub invariant-joined-loop-item : goal.invariant-joined-loop-item
invariant-joined-loop-item l = l.found ++ filter (is_wanted l.wanted) (together (map used_in_joined (drop l.item-index l.items))) ≡ l.initial.found ++ filter (is_wanted l.wanted) (together (map used_in_joined l.items))

abbrev pub invariant-compared-loop-item : goal.invariant-compared-loop-item
invariant-compared-loop-item l = l.found ++ filter (is_wanted l.wanted) (together (map used_in_compared (drop l.item-index l.items))) ≡ l.initial.found ++ filter (is_wanted l.wanted) (together (map used_in_compared l.items))

abbrev pub invariant-operands-loop-item : goal.invariant-operands-loop-item
invariant-operands-loop-item l = l.found ++ filter (is_wanted l.wanted) (together (map used_in_operand (drop l.item-index l.items))) ≡ l.initial.found ++ filter (is_wanted l.wanted) (together (map used_in_operand l.items))

abbrev pub invariant-arguments-loop-item : goal.invariant-arguments-loop-item
invariant-arguments-loop-item l = l.found ++ filter (is_wanted l.wanted) (together (map used_in_argument (drop l.item-index l.items))) ≡ l.initial.found ++ filter (is_wanted l.wanted) (together (map used_in_argument l.items))

abbrev pub invariant-steps-loop-item : goal.invariant-steps-loop-item
invariant-steps-loop-item l = l.found ++ filter (is_wanted l.wanted) (used_in_steps (map used_in_step (drop l.item-index l.items))) ≡ l.initial.found ++ filter (is_wanted l.wanted) (used_in_steps (map used_in_step l.items))
