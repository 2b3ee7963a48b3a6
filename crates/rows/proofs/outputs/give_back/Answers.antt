use Rattle.std.proofs.Common.{◌≡◌, ◌<◌, ◌∙◌, length, ap, arith}
use Rattle.std.specs.FinMap.{empty}
use Rattle.std.proofs.lemmas.List.{get_or_read}
use Rattle.path_trees.specs.Operations.{joined}
use Rattle.rows.specs.Families.{tree_at}
use Rattle.rows.proofs.Gifts.{given_back}
use Rattle.rows.proofs.outputs.give_back.Goals as goal

pub returns : goal.returns
returns g c =
    let s = c.args.solution.now in
    let B = c.grow.new.trees.items in
    let e = c.in_ok-grow.ensures.enough in
    let l : c.args.parameter < length B = omega (arith, c.grow.new.trees.ok.0) in
    let at : c.index_mut-back.result.now ≡ tree_at B c.args.parameter = get_or_read _ _ _ l c.index_mut-back.ensures.value empty in
    given_back (g.I.Inputs.trees c.args.inputs.now) c.args.right.now c.args.parameter s.nodes.items s.result c.join_in.new.self c.in_ok-right.right s.backs.items B s.puts.items
    (rw c.deref.ensures.value at c.in_ok-right.ensures) c.in_ok-grow.ensures.same l (c.in_ok-join_in.ensures.exact ∙ ap (λ z. joined z c.in_ok-right.right) at)
