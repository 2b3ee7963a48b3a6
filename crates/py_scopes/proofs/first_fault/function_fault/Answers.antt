use Rattle.std.proofs.Common.{map, ap}
use Rattle.std.proofs.lemmas.Result.{IfOk-weaker}
use Rattle.py_ast.specs.Bindings.{parameter}
use Rattle.py_scopes.specs.Names.{is_variable_of}
use Rattle.py_scopes.proofs.FaultLemmas.{faults_known}
use Rattle.py_scopes.proofs.first_fault.function_fault.Goals as goal

pub returns : goal.returns
returns c =
    IfOk-weaker c.call_fault.result _ _ (λ f h. faults_known (λ n. is_variable_of n c.args.globals.now) c.args.function.now c.args.known c.in_ok-known.known f (map parameter c.as_slice.result.now)
    (ap (map parameter) c.as_slice.ensures) c.in_ok-known.ensures h) c.call_fault.ensures
