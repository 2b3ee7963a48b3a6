use Rattle.std.proofs.Common.{◌+◌, ◌*◌}
use Rattle.py_expr.proofs.expr.+expr.Given as goal

abbrev pub decreases-expr_of : goal.decreases-expr_of
decreases-expr_of l = 32 * l.room + 17

abbrev pub decreases-whole_of : goal.decreases-whole_of
decreases-whole_of l = 32 * l.room + 16

abbrev pub decreases-wider_from : goal.decreases-wider_from
decreases-wider_from l = 32 * l.room + 15

abbrev pub decreases-prefixed_of : goal.decreases-prefixed_of
decreases-prefixed_of l = 32 * l.room + 15

abbrev pub decreases-expr_from : goal.decreases-expr_from
decreases-expr_from l = 32 * l.room + 14

abbrev pub decreases-choice_of : goal.decreases-choice_of
decreases-choice_of l = 32 * l.room + 12

abbrev pub decreases-otherwise_of : goal.decreases-otherwise_of
decreases-otherwise_of l = 32 * l.room + 11

abbrev pub decreases-disjunction_of : goal.decreases-disjunction_of
decreases-disjunction_of l = 32 * l.room + 11

abbrev pub decreases-disjunction_from : goal.decreases-disjunction_from
decreases-disjunction_from l = 32 * l.room + 10

abbrev pub decreases-disjunction_from-disjunction_by : goal.decreases-disjunction_from-disjunction_by
decreases-disjunction_from-disjunction_by l = 32 * l.room + 9

abbrev pub decreases-inversion_of : goal.decreases-inversion_of
decreases-inversion_of l = 32 * l.room + 8

abbrev pub decreases-comparison_of : goal.decreases-comparison_of
decreases-comparison_of l = 32 * l.room + 7

abbrev pub decreases-comparison_from : goal.decreases-comparison_from
decreases-comparison_from l = 32 * l.room + 6

abbrev pub decreases-comparison_from-comparison_by : goal.decreases-comparison_from-comparison_by
decreases-comparison_from-comparison_by l = 32 * l.room + 5

abbrev pub decreases-factor_of : goal.decreases-factor_of
decreases-factor_of l = 32 * l.room + 4

abbrev pub decreases-power_of : goal.decreases-power_of
decreases-power_of l = 32 * l.room + 3

abbrev pub decreases-power_from : goal.decreases-power_from
decreases-power_from l = 32 * l.room + 2

abbrev pub decreases-primary_of : goal.decreases-primary_of
decreases-primary_of l = 32 * l.room + 2

abbrev pub decreases-primary_of-primary_by : goal.decreases-primary_of-primary_by
decreases-primary_of-primary_by l = 32 * l.room + 1

abbrev pub decreases-nested_of : goal.decreases-nested_of
decreases-nested_of l = 32 * l.room

abbrev pub decreases-exponent_of : goal.decreases-exponent_of
decreases-exponent_of l = 32 * l.room
