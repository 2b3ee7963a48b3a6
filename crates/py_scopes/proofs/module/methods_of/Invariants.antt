use Rattle.std.proofs.Common.{◌≡◌, ◌++◌, filter, drop}
use Rattle.py_ast.specs.ScopeFaults.{is_method}
use Rattle.py_scopes.proofs.module.methods_of.Given as goal

abbrev pub invariant-loop-binding : goal.invariant-loop-binding
invariant-loop-binding l = l.found ++ filter is_method (drop l.binding-index l.members) ≡ filter is_method l.members
