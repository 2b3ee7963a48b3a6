use Rattle.std.proofs.Common.{fold, ap, ◌∙◌}
use Rattle.std.proofs.lemmas.Result.{IfOk-weaker, IfOk-at_ok}
use Rattle.py_ast.specs.ScopeFaults.{sooner, function_faults}
use Rattle.py_scopes.specs.Names.{is_variable_of}
use Rattle.py_scopes.proofs.FaultLemmas.{function_known}
use Rattle.py_scopes.proofs.module.read_used.Goals as goal

pub returns-clause-scope : goal.returns-clause-scope
returns-clause-scope c = IfOk-weaker c.beside-2.result _ _ (λ x e. e ∙ IfOk-at_ok _ c.in_ok-known.ensures.second c.function_scope.ensures) c.beside-2.ensures.first

pub returns-clause-fault : goal.returns-clause-fault
returns-clause-fault c =
    let read = function_known (λ n. is_variable_of n c.args.globals.now) c.args.method c.args.function.now c.in_ok-known.known in
    let made = IfOk-at_ok _ c.in_ok-known.ensures.second c.function_scope.ensures in
    IfOk-weaker c.beside-2.result _ _ (λ x h. read x.1 c.in_ok-known.scope c.uses.result.now made (c.uses.ensures ∙ c.requires) (IfOk-at_ok _ h c.body_fault-fault.ensures)
    ∙ ap (λ k. fold sooner k (function_faults (λ n. is_variable_of n c.args.globals.now) c.args.function.now)) c.in_ok-known.ensures.first) c.beside-2.ensures.second
