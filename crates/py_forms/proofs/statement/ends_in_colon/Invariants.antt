use Rattle.std.proofs.Common.{◌≡◌, false, length}
use Rattle.py_forms.specs.Statements.{ends_in_colon}
use Rattle.py_forms.proofs.statement.ends_in_colon.Given as goal

abbrev pub invariant-onward : goal.invariant-onward
invariant-onward l = ends_in_colon l.colon l.rest ≡ ends_in_colon false l.tokens

abbrev pub decreases-onward : goal.decreases-onward
decreases-onward l = length l.rest
