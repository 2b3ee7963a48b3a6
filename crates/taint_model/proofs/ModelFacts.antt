-- Models are partially ordered, and their join is the least upper bound.
use Rattle.std.proofs.Common.{◌≡◌, List, ap, ◌∙◌, length}
use Rattle.path_trees.specs.Trees.{TreeMap}
use Rattle.path_trees.proofs.Finite.{below_antisymm, below_refl, below_trans}
use Rattle.path_trees.proofs.TreeLaws.{join_first, join_second, join_least}
use Rattle.taint_model.specs.declared.models.Model.{Model}
use Rattle.taint_model.specs.Puts.{HasNoEmptyTree, PutMap, tree_at}
use Rattle.taint_model.proofs.TreeFacts.{below_of, empty_below}
use Rattle.taint_model.specs.Models.{ModelBelow, empty_model, joined_models}
use Rattle.taint_model.proofs.PutFacts.{puts_antisymm, puts_refl, puts_trans}
use Rattle.taint_model.proofs.PutJoins.{at_empty, puts_join_first, puts_join_second, puts_join_least, some_joined}
use Rattle.taint_model.proofs.ListFacts.{empty_trees_below, length_below, length_joined, trees_antisymm, trees_join_first, trees_join_second, trees_join_least, trees_refl, trees_trans}

pub model_refl : (a : Model) → ModelBelow a a
model_refl a = record { result = below_refl a.result; back = trees_refl a.back; puts = puts_refl a.puts }

pub model_trans : (a b c : Model) → ModelBelow a b → ModelBelow b c → ModelBelow a c
model_trans a b c h k = record { result = below_trans h.result k.result; back = trees_trans a.back b.back c.back h.back k.back; puts = puts_trans h.puts k.puts }

same_model : (r s : TreeMap) (ts us : List TreeMap) (p q : PutMap) → r ≡ s → ts ≡ us → p ≡ q → (let m : Model = record { result = r; back = ts; puts = p } in m) ≡ (let m : Model = record { result = s; back = us; puts = q } in m)
same_model r s ts us p q e f g =
    ap (λ (z : TreeMap). let m : Model = record { result = z; back = ts; puts = p } in m) e
    ∙ ap (λ (z : List TreeMap). let m : Model = record { result = s; back = z; puts = p } in m) f
    ∙ ap (λ (z : PutMap). let m : Model = record { result = s; back = us; puts = z } in m) g

pub model_antisymm : (a b : Model) → HasNoEmptyTree a.puts → HasNoEmptyTree b.puts → ModelBelow a b → ModelBelow b a → a ≡ b
model_antisymm a b h k p q =
    same_model a.result b.result a.back b.back a.puts b.puts (below_antisymm a.result b.result p.result q.result) (trees_antisymm a.back b.back p.back q.back) (puts_antisymm a.puts b.puts h k p.puts q.puts)

pub model_join_first : (a b : Model) → length a.back ≡ length b.back → ModelBelow a (joined_models a b)
model_join_first a b e = record { result = join_first a.result b.result; back = trees_join_first a.back b.back e; puts = puts_join_first a.puts b.puts }

pub model_join_second : (a b : Model) → length a.back ≡ length b.back → ModelBelow b (joined_models a b)
model_join_second a b e = record { result = join_second a.result b.result; back = trees_join_second a.back b.back e; puts = puts_join_second a.puts b.puts }

pub model_join_least : (a b c : Model) → ModelBelow a c → ModelBelow b c → ModelBelow (joined_models a b) c
model_join_least a b c h k = record {
  result = join_least a.result b.result c.result h.result k.result;
  back = trees_join_least a.back b.back c.back h.back k.back;
  puts = puts_join_least a.puts b.puts c.puts h.puts k.puts;
}

-- joining what is below changes nothing
pub model_join_below : (a b : Model) → length a.back ≡ length b.back → HasNoEmptyTree a.puts → HasNoEmptyTree b.puts → ModelBelow b a → a ≡ joined_models a b
model_join_below a b e h k l =
    model_antisymm a (joined_models a b) h (some_joined a.puts b.puts h k) (model_join_first a b e) (model_join_least a b a (model_refl a) l)

pub model_length : (a b : Model) → ModelBelow a b → length a.back ≡ length b.back
model_length a b h = length_below a.back b.back h.back

pub model_join_length : (a b : Model) → length a.back ≡ length b.back → length (joined_models a b).back ≡ length a.back
model_join_length a b e = length_joined a.back b.back e

-- the empty model is the least
pub model_empty : (a : Model) → ModelBelow (empty_model (length a.back)) a
model_empty a = record { result = empty_below a.result; back = empty_trees_below a.back; puts = record { at = λ c. below_trans (below_of (at_empty c)) (empty_below (tree_at a.puts c)) } }
