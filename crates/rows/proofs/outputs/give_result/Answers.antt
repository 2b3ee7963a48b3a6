use Rattle.rows.proofs.Gifts.{given_result}
use Rattle.rows.proofs.outputs.give_result.Goals as goal

pub returns : goal.returns
returns g c =
    let s = c.args.solution.now in
    given_result (g.I.Inputs.trees c.args.inputs.now) c.args.right.now s.nodes.items s.result c.join_in.new.self c.in_ok-right.right s.backs.items s.puts.items
    (rw c.deref.ensures.value at c.in_ok-right.ensures) c.in_ok-join_in.ensures.exact
