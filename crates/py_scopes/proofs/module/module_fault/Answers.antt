use Rattle.std.proofs.Common.{◌≡◌, ◌||◌, ◌++◌, None, IfOk, Option, filter, refl, sym, subst, ap, ◌∙◌}
use Rattle.std.proofs.lemmas.Result.{IfOk-weaker}
use Rattle.std.specs.List.{fold}
use Rattle.py_ast.specs.ScopeFaults.{sooner, bound_twice, variable_calls}
use Rattle.py_ast.specs.Uses.{used_in_all}
use Rattle.py_ast.specs.declared.binding.ScopeFault.{ScopeFault}
use Rattle.py_scopes.specs.Listed.{is_wanted}
use Rattle.py_scopes.specs.Names.{is_named, is_variable_of}
use Rattle.py_scopes.proofs.FaultLemmas.{module_known, module_quiet}
use Rattle.py_scopes.specs.declared.uses.Wanted.TheVariants.{Calls}
use Rattle.py_scopes.proofs.module.module_fault.Goals as goal

pub returns-then-is_empty : goal.returns-then-is_empty
returns-then-is_empty c =
    IfOk-weaker c.bound_twice.result _ _ (λ f h. module_quiet c.args.tree.now f c.args.variables.now c.requires
    (sym (c.in_ok-calls.ensures ∙ ap (λ ss. filter (is_wanted Calls) (used_in_all ss)) c.as_slice.ensures) ∙ c.if-is_empty.ensures.0 refl) h) c.bound_twice.ensures

pub returns : goal.returns
returns c =
    let gs = c.args.variables.now in
    let ls = c.in_ok-locals.locals in
    let us = c.as_slice-2.result.now in
    let last = fold sooner None (bound_twice gs ++ variable_calls (λ n. is_named n ls || is_variable_of n gs) us) in
    let P : Option ScopeFault → Type 0 = λ x. IfOk c.body_fault.result (λ f. f ≡ x) in
    subst P (module_known c.args.tree.now last gs ls us c.requires (c.in_ok-locals.ensures ∙ c.new.ensures) (c.as_slice-2.ensures ∙ c.in_ok-calls.ensures ∙ ap (λ ss. filter (is_wanted Calls) (used_in_all ss)) c.as_slice.ensures) refl) c.body_fault.ensures
