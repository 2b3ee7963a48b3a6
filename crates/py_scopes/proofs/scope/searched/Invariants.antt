use Rattle.std.proofs.Common.{◌≡◌, Some, None, drop}
use Rattle.py_scopes.specs.Facts.{known, told}
use Rattle.py_scopes.proofs.scope.searched.Given as goal

abbrev pub invariant-loop-place : goal.invariant-loop-place
invariant-loop-place l = known (told l.name l.place (Some l.facts) (drop l.place l.fn.bindings)) ≡ known (told l.name 0 None l.fn.bindings)
