use Rattle.std.proofs.Common.{◌+◌, ◌*◌}
use Rattle.py_simple.proofs.literals.+literal.Given as goal

abbrev pub decreases-nested_literal_of : goal.decreases-nested_literal_of
decreases-nested_literal_of l = 2 * l.room

abbrev pub decreases-literal_over_of : goal.decreases-literal_over_of
decreases-literal_over_of l = 2 * l.inner + 1
