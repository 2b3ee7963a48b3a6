use Rattle.std.proofs.Common.{IfOk, ◌≡◌, subst}
use Rattle.path_trees.specs.Trees.{TreeMap}
use Rattle.taint_model.proofs.PutReads.{cells_at_attr_of, cells_at_key_of, cells_at_keys_of}
use Rattle.taint_model.proofs.puts.Puts.cells_at.Goals as goal

pub returns-in-Attr : goal.returns-in-Attr
returns-in-Attr c =
    let P : TreeMap → Type 0 = λ z. IfOk c.farther.result (λ (r : TreeMap). r ≡ z) in
    subst P (cells_at_attr_of c.args.self.now c.args.step.now _ c.in-Attr.is) c.farther.ensures

pub returns-in_ok-any-in-Key : goal.returns-in_ok-any-in-Key
returns-in_ok-any-in-Key c =
    let P : TreeMap → Type 0 = λ z. IfOk c.join.result (λ (r : TreeMap). r ≡ z) in
    subst P (cells_at_key_of c.args.self.now c.args.step.now _ _ _ c.in-Key.is c.in_ok-here-in-Key.ensures c.in_ok-any-in-Key.ensures) c.join.ensures

pub returns-in-Keys : goal.returns-in-Keys
returns-in-Keys c =
    let P : TreeMap → Type 0 = λ z. IfOk c.farther-in-Keys.result (λ (r : TreeMap). r ≡ z) in
    subst P (cells_at_keys_of c.args.self.now c.args.step.now c.in-Keys.is) c.farther-in-Keys.ensures
