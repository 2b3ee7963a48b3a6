use Rattle.std.proofs.Common.{◌≡◌, ◌++◌, ◌∷◌, [], ap, ◌∙◌}
use Rattle.std.specs.Arc.{arc_value}
use Rattle.publish.specs.Posts.{last_of}
use Rattle.publish.proofs.Chains.{last_push}
use Rattle.publish.proofs.posters.Poster.post.Goals as goal

pub invariant_of-post : goal.invariant_of-post
invariant_of-post g c =
    let old = c.again-sight.result.seen.log in
    let e : c.again.result.seen.log ≡ old ++ arc_value c.args.value ∷ [] = ap (λ s. s.log) c.again.ensures ∙ (c.add.ensures.added c.if-not-add.false ∙ ap (λ v. old ++ v ∷ []) c.deref.ensures) in
    record { last = ap last_of e ∙ last_push old (arc_value c.args.value) }
