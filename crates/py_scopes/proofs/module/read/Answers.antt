use Rattle.std.proofs.lemmas.Result.{IfOk-weaker, IfOk-at_ok}
use Rattle.py_scopes.proofs.module.read.Goals as goal

pub returns-clause-fault : goal.returns-clause-fault
returns-clause-fault c = IfOk-weaker c.beside.result _ _ (λ x h. IfOk-at_ok _ h c.read_layers-fault.ensures.fault) c.beside.ensures.second
