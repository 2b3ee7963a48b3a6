use Rattle.std.proofs.Common.{ap, sym, ◌∙◌}
use Rattle.std.proofs.lemmas.Result.{IfOk-weaker}
use Rattle.py_ast.specs.Bindings.{bindings}
use Rattle.py_scopes.proofs.FaultLemmas.{read_known}
use Rattle.py_scopes.proofs.module.read_layers.Goals as goal

pub returns-clause-fault : goal.returns-clause-fault
returns-clause-fault c =
    IfOk-weaker c.read_classes.result _ _ (λ f h. read_known c.args.tree.now c.in_ok-known.known c.in_ok-known-2.known f c.args.variables.now c.as_slice-stmts.result.now
    c.as_slice-stmts.ensures (c.requires ∙ ap bindings (sym c.as_slice-stmts.ensures)) c.in_ok-known.ensures c.in_ok-known-2.ensures.fault h) c.read_classes.ensures.fault
