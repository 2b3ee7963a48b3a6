use Rattle.std.proofs.Common.{◌≡◌, ◌∙◌, ap}
use Rattle.path_trees.specs.Trees.{TreeMap}
use Rattle.path_trees.specs.Operations.{joined}
use Rattle.rows.specs.declared.places.Place.TheVariants.{Back}
use Rattle.rows.specs.Families.{tree_at}
use Rattle.rows.specs.Rules.{put_through}
use Rattle.rows.specs.Solutions.{put_at}
use Rattle.rows.proofs.Gifts.{given_outs}
use Rattle.rows.proofs.outputs.give_outs.Goals as goal

pub returns : goal.returns
returns g c =
    let s = c.args.solution.now in
    let I = g.I.Inputs.trees c.args.inputs.now in
    let argument : c.node-argument.result.now ≡ tree_at s.nodes.items c.args.at = rw c.deref.ensures.value at c.node-argument.ensures in
    given_outs I c.args.callee c.args.parameter c.args.at s.nodes.items s.result s.backs.items s.puts.items c.put_outs.new.puts.items
    (λ q. c.in_ok-put_outs.ensures q ∙ ap (λ (z : TreeMap). joined (put_at s.puts.items q) (put_through q z c.of_callee-back.result.now)) argument
    ∙ ap (λ (z : TreeMap). joined (put_at s.puts.items q) (put_through q (tree_at s.nodes.items c.args.at) z)) c.of_callee-back.ensures)
