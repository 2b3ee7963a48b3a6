use Rattle.std.proofs.Common.{◌≡◌, length, false}
use Rattle.py_literals.specs.Formatted.{is_formed}
use Rattle.py_literals.proofs.formatted.is_text_and_fields.Given as goal

abbrev pub invariant-pieces : goal.invariant-pieces
invariant-pieces l = is_formed l.inside l.rest ≡ is_formed false l.body

abbrev pub decreases-pieces : goal.decreases-pieces
decreases-pieces l = length l.rest
