use Rattle.std.proofs.Common.{◌≡◌, ◌<◌, ◌∙◌, ℕ, Ok, false, true, length, ap, sym, subst, arith}
use Rattle.std.specs.FinMap.{empty}
use Rattle.std.proofs.lemmas.List.{get_or_read}
use Rattle.path_trees.specs.Trees.{TreeMap, Below}
use Rattle.path_trees.specs.Operations.{joined}
use Rattle.path_trees.specs.Room.{room}
use Rattle.rows.specs.Families.{tree_at}
use Rattle.rows.proofs.Turns.{raised_same, raised_grew}
use Rattle.rows.proofs.settling.raise.Goals as goal

pub returns-then-not-grew-clause-raised : goal.returns-then-not-grew-clause-raised
returns-then-not-grew-clause-raised g c =
    let N = c.args.nodes.now.items in
    let node = c.requires.node in
    let l : c.args.node < length N = omega (arith, c.args.nodes.now.ok.0) in
    let at : c.index_mut-tree.result.now ≡ tree_at N c.args.node = get_or_read _ _ _ l c.index_mut-tree.ensures.value empty in
    let no : c.in_ok-grew.grew ≡ false = grind (arith, c.if-not-grew.true) in
    let P : TreeMap → Type 0 = λ z. Below c.in_ok-right.right z in
    raised_same (g.I.Inputs.trees c.args.inputs.now) c.args.readers.now.rows.now N c.args.list.now.ids c.args.node c.args.right.now c.in_ok-right.right c.join_in.new.self l
    (rw c.deref.ensures.value at c.in_ok-right.ensures) (subst P at (c.in_ok-grew.ensures.stood (ap Ok no))) (c.in_ok-grew.ensures.same (ap Ok no) ∙ at)

pub returns-clause-raised : goal.returns-clause-raised
returns-clause-raised g c =
    let N = c.args.nodes.now.items in
    let node = c.requires.node in
    let l : c.args.node < length N = omega (arith, c.args.nodes.now.ok.0) in
    let at : c.index_mut-tree.result.now ≡ tree_at N c.args.node = get_or_read _ _ _ l c.index_mut-tree.ensures.value empty in
    let yes : c.in_ok-grew.grew ≡ true = grind (arith, c.if-not-grew.false) in
    let P : TreeMap → Type 0 = λ z. room c.join_in.new.self < room z in
    raised_grew (g.I.Inputs.trees c.args.inputs.now) c.args.readers.now.rows.now N c.args.list.now.ids c.push_readers.new.list c.args.node c.args.right.now c.in_ok-right.right c.join_in.new.self l
    (rw c.deref.ensures.value at c.in_ok-right.ensures) (c.in_ok-grew.ensures.exact ∙ ap (λ z. joined z c.in_ok-right.right) at) (subst P at (c.in_ok-grew.ensures.room (ap Ok yes)))
    c.push_readers.ensures.well_formed c.push_readers.ensures.kept c.push_readers.ensures.pushed
