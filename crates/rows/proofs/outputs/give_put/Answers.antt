use Rattle.std.proofs.Common.{◌≡◌, subst}
use Rattle.path_trees.specs.declared.steps.Step.{Step}
use Rattle.rows.specs.declared.places.Place.TheVariants.{Put}
use Rattle.rows.specs.declared.inequalities.Row.TheVariants.{Into}
use Rattle.rows.specs.Solutions.{Given, family_of}
use Rattle.rows.proofs.Gifts.{given_put}
use Rattle.rows.proofs.outputs.give_put.Goals as goal

pub returns : goal.returns
returns g c =
    let s = c.args.solution.now in
    let P : Step → Type 0 = λ z. Given (g.I.Inputs.trees c.args.inputs.now) (Into (Put z) c.args.right.now) (family_of s.nodes.items s.result s.backs.items s.puts.items) (family_of s.nodes.items s.result s.backs.items c.push.new.self.items) in
    subst P c.in_ok-cell.ensures
    (given_put (g.I.Inputs.trees c.args.inputs.now) c.args.right.now s.nodes.items s.result s.backs.items s.puts.items c.push.new.self.items _
    (rw c.deref.ensures.value at c.in_ok-tree.ensures) c.in_ok-push.ensures.items)
