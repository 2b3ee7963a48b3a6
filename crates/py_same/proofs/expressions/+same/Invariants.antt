use Rattle.std.proofs.Common.{◌≡◌, ◌↔◌, drop}
use Rattle.py_same.proofs.expressions.+same.Given as goal

abbrev pub invariant-same_exprs-loop-one : goal.invariant-same_exprs-loop-one
invariant-same_exprs-loop-one l = (drop l.one-index l.a ≡ l.others) ↔ (l.a ≡ l.b)

abbrev pub invariant-same_parts-loop-one : goal.invariant-same_parts-loop-one
invariant-same_parts-loop-one l = (drop l.one-index l.a ≡ l.others) ↔ (l.a ≡ l.b)

abbrev pub invariant-same_pairs-loop-one : goal.invariant-same_pairs-loop-one
invariant-same_pairs-loop-one l = (drop l.one-index l.a ≡ l.others) ↔ (l.a ≡ l.b)

abbrev pub invariant-same_joined-loop-one : goal.invariant-same_joined-loop-one
invariant-same_joined-loop-one l = (drop l.one-index l.a ≡ l.others) ↔ (l.a ≡ l.b)

abbrev pub invariant-same_compared-loop-one : goal.invariant-same_compared-loop-one
invariant-same_compared-loop-one l = (drop l.one-index l.a ≡ l.others) ↔ (l.a ≡ l.b)

abbrev pub invariant-same_operands-loop-one : goal.invariant-same_operands-loop-one
invariant-same_operands-loop-one l = (drop l.one-index l.a ≡ l.others) ↔ (l.a ≡ l.b)

abbrev pub invariant-same_steps-loop-one : goal.invariant-same_steps-loop-one
invariant-same_steps-loop-one l = (drop l.one-index l.a ≡ l.others) ↔ (l.a ≡ l.b)

abbrev pub invariant-same_arguments-loop-one : goal.invariant-same_arguments-loop-one
invariant-same_arguments-loop-one l = (drop l.one-index l.a ≡ l.others) ↔ (l.a ≡ l.b)
