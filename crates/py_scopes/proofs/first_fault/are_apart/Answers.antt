use Rattle.std.proofs.Common.{map, take, sym, subst}
use Rattle.std.proofs.lemmas.List.{drop_all}
use Rattle.py_ast.specs.Bindings.{parameter}
use Rattle.py_scopes.proofs.FaultLemmas.{Fresh, fresh_list}
use Rattle.py_scopes.proofs.first_fault.are_apart.Goals as goal

pub returns : goal.returns
returns c = λ _.
    let at = c.loop-place.place in
    let all = c.args.items.now in
    fresh_list (map parameter all) (c.loop-place.invariant (subst (λ ps. Fresh (map parameter (take at all)) (map parameter ps)) (sym (drop_all at all c.loop-place-test.false)) tt))
