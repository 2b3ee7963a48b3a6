use Rattle.std.proofs.lemmas.Result.{IfOk-weaker, IfOk-at_ok}
use Rattle.py_scopes.proofs.module.bound_of.Goals as goal

pub returns-clause-locals : goal.returns-clause-locals
returns-clause-locals c = IfOk-weaker c.beside.result _ _ (λ x h. IfOk-at_ok _ h c.locals_of.ensures) c.beside.ensures.second
