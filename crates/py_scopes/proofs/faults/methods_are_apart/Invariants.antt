use Rattle.std.proofs.Common.{[], take, drop}
use Rattle.py_scopes.proofs.FaultLemmas.{Fresh}
use Rattle.py_scopes.proofs.faults.methods_are_apart.Given as goal

abbrev pub invariant-loop-place : goal.invariant-loop-place
invariant-loop-place l = Fresh (take l.place l.members) (drop l.place l.members) → Fresh [] l.members
