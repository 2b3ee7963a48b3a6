use Rattle.std.proofs.Common.{◌≡◌, ◌<◌, ◌∙◌, ℕ, List, length, ap, sym, subst, arith, get_or}
use Rattle.std.proofs.lemmas.Result.{on_ok_weaker}
use Rattle.rows.specs.declared.places.Place.{Place}
use Rattle.rows.specs.declared.places.Place.TheVariants.{Node, Result, Back, Put}
use Rattle.rows.specs.declared.inequalities.Row.{Row}
use Rattle.rows.specs.declared.inequalities.Row.TheVariants.{Into, Puts}
use Rattle.rows.specs.Families.{tree_at}
use Rattle.rows.specs.Reading.{row_at}
use Rattle.rows.specs.Working.{NodeHolds, IsRowBelow}
use Rattle.rows.proofs.Turns.{any_default, row_below_at, turned_idle, turned_raised}
use Rattle.rows.proofs.settling.turn.Goals as goal

pub raise-requires-clause-node : goal.raise-requires-clause-node
raise-requires-clause-node g c =
    let rows = c.args.readers.now.rows.now in
    let row = c.requires.row in
    let nodes = c.requires.nodes in
    let at : get_or rows c.args.row c.index-readers-row.result ≡ row_at rows c.args.row = any_default rows c.args.row c.index-readers-row.result row in
    let is : row_at rows c.args.row ≡ Into (Node c.in-Node.node) c.in-Into.right = sym at ∙ c.in-Into.is ∙ ap (λ z. Into z c.in-Into.right) c.in-Node.is in
    let P : Row → Type 0 = IsRowBelow c.args.readers.now.last.len in
    let b : c.in-Node.node < c.args.readers.now.last.len = subst P is (row_below_at c.args.readers.now.last.len rows c.args.row row c.requires.lefts) in
    omega arith

pub returns-in-Puts-clause-turned : goal.returns-in-Puts-clause-turned
returns-in-Puts-clause-turned g c =
    let rows = c.args.readers.now.rows.now in
    let row = c.requires.row in
    let at : get_or rows c.args.row c.index-readers-row.result ≡ row_at rows c.args.row = any_default rows c.args.row c.index-readers-row.result row in
    let P : Row → Type 0 = NodeHolds (g.I.Inputs.trees c.args.inputs.now) (tree_at c.args.nodes.now.items) in
    turned_idle (g.I.Inputs.trees c.args.inputs.now) rows c.args.nodes.now.items c.args.list.now.ids c.args.row (subst P (sym c.in-Puts.is ∙ at) tt)

pub returns-in-Result-clause-turned : goal.returns-in-Result-clause-turned
returns-in-Result-clause-turned g c =
    let rows = c.args.readers.now.rows.now in
    let row = c.requires.row in
    let at : get_or rows c.args.row c.index-readers-row.result ≡ row_at rows c.args.row = any_default rows c.args.row c.index-readers-row.result row in
    let is : Into Result c.in-Into.right ≡ row_at rows c.args.row = ap (λ z. Into z c.in-Into.right) (sym c.in-Result.is) ∙ sym c.in-Into.is ∙ at in
    let P : Row → Type 0 = NodeHolds (g.I.Inputs.trees c.args.inputs.now) (tree_at c.args.nodes.now.items) in
    turned_idle (g.I.Inputs.trees c.args.inputs.now) rows c.args.nodes.now.items c.args.list.now.ids c.args.row (subst P is tt)

pub returns-in-Back-clause-turned : goal.returns-in-Back-clause-turned
returns-in-Back-clause-turned g c =
    let rows = c.args.readers.now.rows.now in
    let row = c.requires.row in
    let at : get_or rows c.args.row c.index-readers-row.result ≡ row_at rows c.args.row = any_default rows c.args.row c.index-readers-row.result row in
    let is : Into (Back c.in-Back.field-0) c.in-Into.right ≡ row_at rows c.args.row = ap (λ z. Into z c.in-Into.right) (sym c.in-Back.is) ∙ sym c.in-Into.is ∙ at in
    let P : Row → Type 0 = NodeHolds (g.I.Inputs.trees c.args.inputs.now) (tree_at c.args.nodes.now.items) in
    turned_idle (g.I.Inputs.trees c.args.inputs.now) rows c.args.nodes.now.items c.args.list.now.ids c.args.row (subst P is tt)

pub returns-in-Put-clause-turned : goal.returns-in-Put-clause-turned
returns-in-Put-clause-turned g c =
    let rows = c.args.readers.now.rows.now in
    let row = c.requires.row in
    let at : get_or rows c.args.row c.index-readers-row.result ≡ row_at rows c.args.row = any_default rows c.args.row c.index-readers-row.result row in
    let is : Into (Put c.in-Put.field-0) c.in-Into.right ≡ row_at rows c.args.row = ap (λ z. Into z c.in-Into.right) (sym c.in-Put.is) ∙ sym c.in-Into.is ∙ at in
    let P : Row → Type 0 = NodeHolds (g.I.Inputs.trees c.args.inputs.now) (tree_at c.args.nodes.now.items) in
    turned_idle (g.I.Inputs.trees c.args.inputs.now) rows c.args.nodes.now.items c.args.list.now.ids c.args.row (subst P is tt)

pub returns-in-Node-clause-turned : goal.returns-in-Node-clause-turned
returns-in-Node-clause-turned g c =
    let rows = c.args.readers.now.rows.now in
    let row = c.requires.row in
    let at : get_or rows c.args.row c.index-readers-row.result ≡ row_at rows c.args.row = any_default rows c.args.row c.index-readers-row.result row in
    let is : row_at rows c.args.row ≡ Into (Node c.in-Node.node) c.in-Into.right = sym at ∙ c.in-Into.is ∙ ap (λ z. Into z c.in-Into.right) c.in-Node.is in
    on_ok_weaker c.raise.result (turned_raised (g.I.Inputs.trees c.args.inputs.now) rows _ _ _ _ c.args.row c.in-Node.node c.in-Into.right row is) c.raise.ensures.raised
