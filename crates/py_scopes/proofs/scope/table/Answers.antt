use Rattle.std.proofs.Common.{◌≡◌, ℕ, ◌+◌, List, ◌∷◌, cond, Some, drop, sym, ap, ◌∙◌}
use Rattle.std.proofs.lemmas.List.{drop_more, drop_all}
use Rattle.indexmap.specs.IndexMap.{get}
use Rattle.rv_names.specs.Keys.{bytes_equal}
use Rattle.py_scopes.specs.Facts.{known, told, with_binding}
use Rattle.py_scopes.proofs.FactLemmas.{told-step}
use Rattle.py_scopes.proofs.scope.table.Goals as goal

pub loop-place-preserved : goal.loop-place-preserved
loop-place-preserved c = λ n.
    let at = c.loop-place.place in
    let b = c.index-bindings-place.result in
    let all = c.args.bindings.now in
    let m = get bytes_equal c.loop-place.names in
    let split : drop at all ≡ b ∷ drop (at + 1) all = drop_more all at b c.loop-place-test.true ∙ ap (λ x. x ∷ drop (at + 1) all) (sym c.index-bindings-place.is) in
    let value = c.with.ensures ∙ ap (with_binding at b) c.known-before.ensures in
    let put = c.in_ok-insert.ensures.updates.0 n ∙ ap (λ k. cond (bytes_equal k n) (Some c.with.result) (m n)) c.in_ok-copy.ensures ∙ ap (λ v. cond (bytes_equal b.name n) (Some v) (m n)) value in
    ap (λ f. told n (at + 1) f (drop (at + 1) all)) (told-step m (get bytes_equal c.insert.new.self n) at n b put) ∙ sym (ap (told n at (m n)) split) ∙ c.loop-place.invariant n

pub returns : goal.returns
returns c = λ n.
    let at = c.loop-place.place in
    let all = c.args.bindings.now in
    sym (ap (told n at (get bytes_equal c.loop-place.names n)) (drop_all at all c.loop-place-test.false)) ∙ c.loop-place.invariant n
