-- Models that are kept in lists.
use Rattle.std.specs.Prelude.{ℕ, zero, suc, List, [], ◌∷◌, Option, Some, None, slice_get}
use Rattle.std.specs.FinMap.{empty}
use Rattle.path_trees.specs.declared.steps.Step.{Step}
use Rattle.path_trees.specs.Trees.{TreeMap}
use Rattle.rows.specs.declared.places.Place.{Place}
use Rattle.rows.specs.declared.places.Place.TheVariants.{Node, Result, Back, Put}
use Rattle.rows.specs.declared.solutions.PutTree.{PutTree}
use Rattle.rows.specs.declared.told.CalleeTrees.{CalleeTrees}
use Rattle.rows.specs.declared.told.Told.{Told}
use Rattle.rows.specs.Families.{Family, InputTrees, tree_at}
use Rattle.rows.specs.Solutions.{one_put}

-- the trees of a callee's result and parameters
abbrev pub callee_family : CalleeTrees → Family
callee_family t (Node n) = empty
callee_family t Result = t.result
callee_family t (Back i) = tree_at t.backs.items i
callee_family t (Put c) = empty

-- those of a callee that may be there
abbrev pub callee_of : Option CalleeTrees → Family
callee_of None p = empty
callee_of (Some t) p = callee_family t p

-- what each callable puts into each cell, where each puts one tree into one cell
abbrev pub puts_of : List PutTree → ℕ → Step → TreeMap
puts_of [] h c = empty
puts_of (p ∷ puts) zero c = one_put p c
puts_of (p ∷ puts) (suc h) c = puts_of puts h c

abbrev pub told_trees : Told → InputTrees
told_trees t = record { of = λ k. callee_of (slice_get t.callees.items k); puts = puts_of t.puts.items }
