use Rattle.std.proofs.Common.{◌≡◌, None, drop}
use Rattle.indexmap.specs.IndexMap.{get}
use Rattle.rv_names.specs.Keys.{Bytes, bytes_equal}
use Rattle.py_scopes.specs.Facts.{told}
use Rattle.py_scopes.proofs.scope.table.Given as goal

abbrev pub invariant-loop-place : goal.invariant-loop-place
invariant-loop-place l = (n : Bytes) → told n l.place (get bytes_equal l.names n) (drop l.place l.fn.bindings) ≡ told n 0 None l.fn.bindings
