use Rattle.std.proofs.Common.{filter, ap}
use Rattle.std.proofs.lemmas.Result.{IfOk-weaker}
use Rattle.py_ast.specs.ScopeFaults.{is_method}
use Rattle.py_scopes.specs.Names.{is_variable_of}
use Rattle.py_scopes.proofs.FaultLemmas.{class_known}
use Rattle.py_scopes.proofs.first_fault.class_fault.Goals as goal

pub returns : goal.returns
returns c =
    let ss = c.as_slice-stmts.result.now in
    IfOk-weaker c.functions_fault.result _ _ (λ f h. class_known (λ n. is_variable_of n c.args.globals.now) c.args.class.now c.args.known c.in_ok-known.known f
    ss ss c.in_ok-members.members (filter is_method c.as_slice.result.now) c.as_slice-stmts.ensures c.as_slice-stmts.ensures c.in_ok-members.ensures
    (ap (filter is_method) c.as_slice.ensures) c.in_ok-known.ensures h) c.functions_fault.ensures
