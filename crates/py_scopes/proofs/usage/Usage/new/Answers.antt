use Rattle.std.proofs.Common.{◌≡◌, ℕ, ◌+◌, ◌<◌, List, ◌∷◌, cond, Some, length, get_or, drop, sym, ap, ◌∙◌, subst}
use Rattle.std.proofs.lemmas.List.{drop_more}
use Rattle.indexmap.specs.IndexMap.{get}
use Rattle.rv_names.specs.Keys.{bytes_equal}
use Rattle.py_scopes.specs.Kept.{kept, with_use, kept_in, both_kept}
use Rattle.py_scopes.proofs.UsageLemmas.{kept-step}
use Rattle.py_scopes.proofs.usage.Usage.new.Goals as goal

pub loop-used-preserved : goal.loop-used-preserved
loop-used-preserved c = λ n.
    let at = c.loop-used.used-index in
    let u = c.used-item.result in
    let all = c.as_slice-used-items.result.now in
    let m = get bytes_equal c.loop-used.names in
    let split : drop at all ≡ u ∷ drop (at + 1) all = drop_more all at u c.loop-used-test.true ∙ ap (λ x. x ∷ drop (at + 1) all) (sym c.used-item.is) in
    let value = c.with.ensures ∙ ap (with_use u) c.known-before.ensures in
    let put = c.in_ok-insert.ensures.updates.0 n ∙ ap (λ k. cond (bytes_equal k n) (Some c.with.result) (m n)) c.in_ok-copy.ensures ∙ ap (λ v. cond (bytes_equal u.name n) (Some v) (m n)) value in
    kept-step m (get bytes_equal c.insert.new.self n) n u (drop (at + 1) all) put ∙ sym (ap (λ us. both_kept (kept (m n)) (kept_in n us)) split) ∙ c.loop-used.invariant n
