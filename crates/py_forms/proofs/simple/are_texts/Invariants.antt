use Rattle.std.proofs.Common.{◌≡◌, length}
use Rattle.py_forms.specs.Statements.{are_texts}
use Rattle.py_forms.proofs.simple.are_texts.Given as goal

abbrev pub invariant-onward : goal.invariant-onward
invariant-onward l = are_texts l.rest ≡ are_texts l.tokens

abbrev pub decreases-onward : goal.decreases-onward
decreases-onward l = length l.rest
