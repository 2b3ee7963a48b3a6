use Rattle.std.proofs.Common.{[], map, take, drop}
use Rattle.py_ast.specs.Bindings.{parameter}
use Rattle.py_scopes.proofs.FaultLemmas.{Fresh}
use Rattle.py_scopes.proofs.first_fault.are_apart.Given as goal

abbrev pub invariant-loop-place : goal.invariant-loop-place
invariant-loop-place l = Fresh (map parameter (take l.place l.items)) (map parameter (drop l.place l.items)) → Fresh [] (map parameter l.items)
