use Rattle.std.proofs.Common.{[], take, drop}
use Rattle.py_scopes.proofs.FaultLemmas.{Fresh}
use Rattle.py_scopes.proofs.faults.are_apart.Given as goal

abbrev pub invariant-loop-place : goal.invariant-loop-place
invariant-loop-place l = Fresh (take l.place l.bindings) (drop l.place l.bindings) → Fresh [] l.bindings
