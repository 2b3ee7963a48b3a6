-- Lists of trees, one for each parameter of a callable.
use Rattle.std.specs.Prelude.{ℕ, ◌+◌, List, [], ◌∷◌, replicate}
use Rattle.std.specs.FinMap.{empty}
use Rattle.path_trees.specs.Trees.{Below, IsHeldTree, TreeMap}
use Rattle.path_trees.specs.Operations.{joined}
use Rattle.path_trees.specs.Room.{room}

-- as many trees in both, each below the other at its place
abbrev pub TreesBelow : List TreeMap → List TreeMap → Type 0
TreesBelow [] [] = Unit {0}
TreesBelow [] (u ∷ us) = ⊥
TreesBelow (t ∷ ts) [] = ⊥
TreesBelow (t ∷ ts) (u ∷ us) = Below t u × TreesBelow ts us

-- the joins of the trees at each place that both have
abbrev pub joined_trees : List TreeMap → List TreeMap → List TreeMap
joined_trees [] us = []
joined_trees (t ∷ ts) [] = []
joined_trees (t ∷ ts) (u ∷ us) = joined t u ∷ joined_trees ts us

-- n trees without entries
abbrev pub empty_trees : ℕ → List TreeMap
empty_trees n = replicate n empty

-- each tree is one that a program can hold
abbrev pub AreTreesHeld : List TreeMap → Type 0
AreTreesHeld [] = Unit {0}
AreTreesHeld (t ∷ ts) = IsHeldTree t × AreTreesHeld ts

-- the room above all of them
unfoldable pub list_room : List TreeMap → ℕ
list_room [] = 0
list_room (t ∷ ts) = room t + list_room ts
