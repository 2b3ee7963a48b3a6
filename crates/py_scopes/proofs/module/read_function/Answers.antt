use Rattle.std.proofs.Common.{fold, ap, ◌∙◌}
use Rattle.std.proofs.lemmas.Result.{IfOk-weaker}
use Rattle.py_ast.specs.ScopeFaults.{sooner, function_faults}
use Rattle.py_scopes.specs.Names.{is_variable_of}
use Rattle.py_scopes.proofs.module.read_function.Goals as goal

pub returns-clause-fault : goal.returns-clause-fault
returns-clause-fault c =
    IfOk-weaker c.read_used.result _ _ (λ r e. e ∙ ap (λ k. fold sooner k (function_faults (λ n. is_variable_of n c.args.globals.now) c.args.function.now)) c.in_ok-known.ensures.first) c.read_used.ensures.fault
