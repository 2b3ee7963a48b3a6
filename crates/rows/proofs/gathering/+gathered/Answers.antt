use Rattle.std.proofs.Common.{◌≡◌, rules, subst, IfOk, arith}
use Rattle.path_trees.specs.Trees.{TreeMap}
use Rattle.path_trees.proofs.TreeParts.{near_take, near_drop}
use Rattle.rows.specs.Making.{entry_made}
use Rattle.rows.proofs.Joins.{join_of_one, join_of_parts}
use Rattle.rows.proofs.gathering.+gathered.Goals as goal

pub gathered-requires : goal.gathered-requires
gathered-requires t c = (search rules, rw c.split_at.ensures.front (near_take _ _ c.requires))

pub gathered-requires-in_default : goal.gathered-requires-in_default
gathered-requires-in_default t c = (search rules, rw c.split_at.ensures.back (near_drop _ _ c.requires))

pub returns-in-len1 : goal.returns-in-len1
returns-in-len1 t c =
    let P : TreeMap → Type 0 = λ z. IfOk c.made.result (λ (r : TreeMap). r ≡ z) in
    subst P (join_of_one (entry_made c.args.rule.now) c.args.entries.now c.entry-item.result (omega arith) c.entry-item.is) c.made.ensures

pub returns-in_ok-back-in_default : goal.returns-in_ok-back-in_default
returns-in_ok-back-in_default t c =
    let P : TreeMap → Type 0 = λ z. IfOk c.join.result (λ (r : TreeMap). r ≡ z) in
    let e = join_of_parts (entry_made c.args.rule.now) _ c.args.entries.now _ _ _ _ c.split_at.ensures.front c.split_at.ensures.back c.in_ok-front-in_default.ensures c.in_ok-back-in_default.ensures in
    subst P e c.join.ensures
