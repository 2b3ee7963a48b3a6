use Rattle.std.proofs.Common.{◌≡◌, ◌+◌, ◌∷◌, ◌++◌, drop, sym, ap, ◌∙◌, rules}
use Rattle.std.proofs.lemmas.List.{drop_more}
use Rattle.py_ast.specs.ScopeFaults.{functions, function_in, function_faults}
use Rattle.py_ast.specs.declared.statement.StmtForm.TheOpen.{StmtForm-F}
use Rattle.py_ast.specs.declared.statement.StmtForm.TheVariants.{rolls-Function}
use Rattle.py_ast.specs.declared.statement.StmtForm.TheViews.{out-StmtForm, out-roll-StmtForm}
use Rattle.py_scopes.specs.Names.{is_variable_of}
use Rattle.py_scopes.proofs.FaultLemmas.{fault_more}
use Rattle.py_scopes.proofs.first_fault.functions_fault.Goals as goal
use Rattle.py_scopes.proofs.first_fault.functions_fault.Goals.{in-Function+in_ok-fault, in_default}

pub loop-stmt-preserved : goal.loop-stmt-preserved
loop-stmt-preserved c =
    let at = c.loop-stmt.stmt-index in
    let all = c.args.stmts.now in
    let s = c.stmt-item.result in
    let rest = functions (drop (at + 1) all) in
    let split : drop at all ≡ s ∷ drop (at + 1) all = drop_more all at s c.loop-stmt-test.true ∙ ap (λ x. x ∷ drop (at + 1) all) (sym c.stmt-item.is) in
    elim c.match-stmt.branch [
      | in-Function+in_ok-fault w ↦
          fault_more (function_faults (λ n. is_variable_of n c.args.globals.now)) c.loop-stmt.fault c.match-stmt.fault
          (functions (drop at all)) rest w.in-Function.item _
          (ap functions split ∙ ap (λ f. function_in (out-StmtForm f) ++ rest) (w.in-Function.is ∙ sym (rolls-Function w.in-Function.item)) ∙ ap (λ f. function_in f ++ rest) (out-roll-StmtForm (StmtForm-F.Function w.in-Function.item)))
          (w.fault-is ∙ w.in_ok-fault.ensures) c.loop-stmt.invariant
      | in_default w ↦ search rules
    ]
