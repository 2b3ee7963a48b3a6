use Rattle.std.proofs.Common.{◌≡◌, ap, ◌∙◌, subst, sym}
use Rattle.std.specs.FinMap.{empty, insert}
use Rattle.path_trees.specs.declared.steps.Step.{Step}
use Rattle.path_trees.specs.Trees.{Below, TreeMap}
use Rattle.taint_model.specs.Puts.{PutMap, tree_at}
use Rattle.taint_model.proofs.TreeFacts.{empty_below, join_is_empty}
use Rattle.taint_model.proofs.PutJoins.{put_below, put_some}
use Rattle.taint_model.proofs.RoomFacts.{put_room_put}
use Rattle.taint_model.proofs.puts.Puts.put.Goals as goal

pub returns-then-has-clause-exact : goal.returns-then-has-clause-exact
returns-then-has-clause-exact c = put_below c.args.self.now c.args.cell.now c.args.tree.now c.know.ensures.some (c.has.ensures.0 c.if-has.true)

-- a tree that did not stand there has entries
has_entries : (p : PutMap) (c : Step) (t : TreeMap) → ¬ (Below t (tree_at p c)) → ¬ (t ≡ empty)
has_entries p c t n e = n (subst (λ (z : TreeMap). Below z (tree_at p c)) (sym e) (empty_below (tree_at p c)))

pub insert-requires : goal.insert-requires
insert-requires c = λ e.
    let no : Below c.args.tree.now (tree_at c.args.self.now c.args.cell.now) → ⊥ = λ b. let e = c.has.ensures.1 b in cc in
    has_entries c.args.self.now c.args.cell.now c.args.tree.now no (join_is_empty (tree_at c.args.self.now c.args.cell.now) c.args.tree.now (sym c.in_ok-joined.ensures ∙ e))

pub returns-clause-exact : goal.returns-clause-exact
returns-clause-exact c =
    let no : Below c.args.tree.now (tree_at c.args.self.now c.args.cell.now) → ⊥ = λ b. let e = c.has.ensures.1 b in cc in
    c.in_ok-insert.ensures.ok ∙ ap (λ z. insert c.args.self.now z c.in_ok-joined.joined) c.in_ok-key.ensures ∙ ap (insert c.args.self.now c.args.cell.now) c.in_ok-joined.ensures
    ∙ sym (put_some c.args.self.now c.args.cell.now c.args.tree.now (has_entries c.args.self.now c.args.cell.now c.args.tree.now no))

pub returns-clause-room : goal.returns-clause-room
returns-clause-room c = λ _.
    let no : Below c.args.tree.now (tree_at c.args.self.now c.args.cell.now) → ⊥ = λ b. let e = c.has.ensures.1 b in cc in
    put_room_put c.args.self.now c.insert.new.self c.args.cell.now c.args.tree.now c.know-2.ensures (returns-clause-exact c) no
