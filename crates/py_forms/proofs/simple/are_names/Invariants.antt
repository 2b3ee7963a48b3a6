use Rattle.std.proofs.Common.{◌≡◌, length}
use Rattle.py_forms.specs.Statements.{are_names}
use Rattle.py_forms.proofs.simple.are_names.Given as goal

abbrev pub invariant-onward : goal.invariant-onward
invariant-onward l = are_names l.rest ≡ are_names l.tokens

abbrev pub decreases-onward : goal.decreases-onward
decreases-onward l = length l.rest
