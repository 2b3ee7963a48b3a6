use Rattle.std.proofs.Common.{◌+◌, ◌*◌}
use Rattle.py_parser.proofs.suites.+suite.Given as goal

abbrev pub decreases-suite_of : goal.decreases-suite_of
decreases-suite_of l = 2 * l.room

abbrev pub decreases-suite_over_of : goal.decreases-suite_over_of
decreases-suite_over_of l = 2 * l.inner + 1
