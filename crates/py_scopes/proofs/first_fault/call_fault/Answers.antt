use Rattle.std.proofs.Common.{◌||◌, filter, refl, sym, ap, ◌∙◌}
use Rattle.std.proofs.lemmas.Result.{IfOk-weaker}
use Rattle.py_ast.specs.ScopeFaults.{locals, used_in_body}
use Rattle.py_ast.specs.Uses.{used_in_all}
use Rattle.py_scopes.specs.Listed.{is_wanted}
use Rattle.py_scopes.specs.Names.{is_named, is_variable_of}
use Rattle.py_scopes.proofs.FaultLemmas.{quiet_known, call_known}
use Rattle.py_scopes.specs.declared.uses.Wanted.TheVariants.{Calls}
use Rattle.py_scopes.proofs.first_fault.call_fault.Goals as goal

pub returns-then-is_empty : goal.returns-then-is_empty
returns-then-is_empty c =
    quiet_known (λ n. is_named n (locals c.args.function.now) || is_variable_of n c.args.globals.now) c.args.known (used_in_body c.args.function.now)
    (sym (c.in_ok-calls.ensures ∙ ap (λ ss. filter (is_wanted Calls) (used_in_all ss)) c.as_slice.ensures) ∙ c.if-is_empty.ensures.0 refl)

pub returns : goal.returns
returns c =
    IfOk-weaker c.known_call_fault.result _ _ (λ f h. call_known (λ n. is_variable_of n c.args.globals.now) c.args.function.now c.args.known f (locals c.args.function.now) c.as_slice-2.result.now
    refl (c.as_slice-2.ensures ∙ c.in_ok-calls.ensures ∙ ap (λ ss. filter (is_wanted Calls) (used_in_all ss)) c.as_slice.ensures) h) c.known_call_fault.ensures
