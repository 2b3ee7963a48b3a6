use Rattle.std.proofs.Common.{take, sym, subst}
use Rattle.std.proofs.lemmas.List.{drop_all}
use Rattle.py_scopes.proofs.FaultLemmas.{Fresh, fresh_methods}
use Rattle.py_scopes.proofs.faults.methods_are_apart.Goals as goal

pub returns : goal.returns
returns c = λ _.
    let at = c.loop-place.place in
    let all = c.args.members.now in
    fresh_methods all (c.loop-place.invariant (subst (Fresh (take at all)) (sym (drop_all at all c.loop-place-test.false)) tt))
