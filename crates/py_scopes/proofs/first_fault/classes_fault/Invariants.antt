use Rattle.std.proofs.Common.{◌≡◌, drop}
use Rattle.std.specs.List.{flat_map, fold}
use Rattle.py_ast.specs.ScopeFaults.{sooner, classes, class_faults}
use Rattle.py_scopes.specs.Names.{is_variable_of}
use Rattle.py_scopes.proofs.first_fault.classes_fault.Given as goal

abbrev pub invariant-loop-stmt : goal.invariant-loop-stmt
invariant-loop-stmt l =
    let faults = class_faults (λ n. is_variable_of n l.globals) in
    fold sooner l.fault (flat_map faults (classes (drop l.stmt-index l.stmts))) ≡ fold sooner l.initial.fault (flat_map faults (classes l.stmts))
