use Rattle.std.proofs.Common.{◌≡◌, ◌+◌, ◌∷◌, ◌++◌, drop, sym, ap, ◌∙◌, rules}
use Rattle.std.proofs.lemmas.List.{drop_more}
use Rattle.py_ast.specs.ScopeFaults.{classes, class_in, class_faults}
use Rattle.py_ast.specs.declared.statement.StmtForm.TheOpen.{StmtForm-F}
use Rattle.py_ast.specs.declared.statement.StmtForm.TheVariants.{rolls-Class}
use Rattle.py_ast.specs.declared.statement.StmtForm.TheViews.{out-StmtForm, out-roll-StmtForm}
use Rattle.py_scopes.specs.Names.{is_variable_of}
use Rattle.py_scopes.proofs.FaultLemmas.{fault_more}
use Rattle.py_scopes.proofs.first_fault.classes_fault.Goals as goal
use Rattle.py_scopes.proofs.first_fault.classes_fault.Goals.{in-Class+in_ok-fault, in_default}

pub loop-stmt-preserved : goal.loop-stmt-preserved
loop-stmt-preserved c =
    let at = c.loop-stmt.stmt-index in
    let all = c.args.stmts.now in
    let s = c.stmt-item.result in
    let rest = classes (drop (at + 1) all) in
    let split : drop at all ≡ s ∷ drop (at + 1) all = drop_more all at s c.loop-stmt-test.true ∙ ap (λ x. x ∷ drop (at + 1) all) (sym c.stmt-item.is) in
    elim c.match-stmt.branch [
      | in-Class+in_ok-fault w ↦
          fault_more (class_faults (λ n. is_variable_of n c.args.globals.now)) c.loop-stmt.fault c.match-stmt.fault
          (classes (drop at all)) rest w.in-Class.item _
          (ap classes split ∙ ap (λ f. class_in (out-StmtForm f) ++ rest) (w.in-Class.is ∙ sym (rolls-Class w.in-Class.item)) ∙ ap (λ f. class_in f ++ rest) (out-roll-StmtForm (StmtForm-F.Class w.in-Class.item)))
          (w.fault-is ∙ w.in_ok-fault.ensures) c.loop-stmt.invariant
      | in_default w ↦ search rules
    ]
