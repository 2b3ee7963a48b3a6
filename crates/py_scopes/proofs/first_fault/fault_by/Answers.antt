use Rattle.std.proofs.Common.{ap, sym, ◌∙◌}
use Rattle.std.proofs.lemmas.Result.{IfOk-weaker}
use Rattle.py_ast.specs.Bindings.{bindings}
use Rattle.py_scopes.proofs.FaultLemmas.{read_known}
use Rattle.py_scopes.proofs.first_fault.fault_by.Goals as goal

pub returns : goal.returns
returns c =
    IfOk-weaker c.classes_fault.result _ _ (λ f h. read_known c.args.tree.now c.in_ok-known.known c.in_ok-known-2.known f c.args.variables.now c.as_slice-stmts.result.now
    c.as_slice-stmts.ensures (c.requires ∙ ap bindings (sym c.as_slice-stmts.ensures)) c.in_ok-known.ensures c.in_ok-known-2.ensures h) c.classes_fault.ensures
