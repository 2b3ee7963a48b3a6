use Rattle.std.proofs.Common.{Some, None}
use Rattle.py_scopes.proofs.FactLemmas.{told_alike}
use Rattle.py_scopes.proofs.scope.searched.Goals as goal

pub loop-place-init : goal.loop-place-init
loop-place-init c = told_alike c.args.name.now 0 (Some c.none-facts.result) None c.args.bindings.now c.none-facts.ensures
