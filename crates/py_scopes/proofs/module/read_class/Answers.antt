use Rattle.std.proofs.Common.{filter, fold, refl, ap, ◌∙◌}
use Rattle.std.proofs.lemmas.Result.{IfOk-weaker, IfOk-at_ok}
use Rattle.py_ast.specs.ScopeFaults.{is_method, sooner, class_faults}
use Rattle.py_ast.specs.declared.statement.Class.{out-Class}
use Rattle.py_scopes.specs.Names.{is_variable_of}
use Rattle.py_scopes.proofs.FaultLemmas.{class_known}
use Rattle.py_scopes.proofs.module.read_class.Goals as goal

pub returns-clause-fault : goal.returns-clause-fault
returns-clause-fault c =
    let class = c.args.class.now in
    let made = IfOk-at_ok _ c.in_ok-known.ensures.second c.scope_without_methods.ensures in
    let told = class_known (λ n. is_variable_of n c.args.globals.now) class c.in_ok-known.known c.in_ok-scope.known in
    IfOk-weaker c.beside-3.result _ _ (λ x h. told x.1 (out-Class class).body c.as_slice.result.now c.bindings.result.now (filter is_method c.bindings.result.now)
    refl c.as_slice.ensures (c.bindings.ensures ∙ ap (λ s. s.members) made) refl (IfOk-at_ok _ c.in_ok-scope.ensures.second c.all_methods_fault-known.ensures) (IfOk-at_ok _ h c.read_functions-fault.ensures.fault)
    ∙ ap (λ k. fold sooner k (class_faults (λ n. is_variable_of n c.args.globals.now) class)) c.in_ok-known.ensures.first) c.beside-3.ensures.second
