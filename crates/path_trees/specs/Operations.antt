-- The operations on trees, each by the entries of its result.
use Rattle.std.specs.Prelude.{ℕ, Bool, true, false, List, [], ◌∷◌, ◌++◌, Option, Some, None, ◌&&◌}
use Rattle.std.specs.List.{list_any}
use Rattle.std.specs.FinMap.{empty, entries}
use Rattle.path_trees.specs.declared.steps.Step.{Step}
use Rattle.path_trees.specs.declared.marks.Mark.{Mark}
use Rattle.path_trees.specs.declared.marks.Mark.TheVariants.{Source, Sink, Out}
use Rattle.path_trees.specs.declared.spots.Spot.{Spot}
use Rattle.path_trees.specs.declared.moves.Move.{Move}
use Rattle.path_trees.specs.declared.moves.Move.TheVariants.{Part, Under, Collapse}
use Rattle.path_trees.specs.Steps.{paths_meet}
use Rattle.path_trees.specs.Spots.{marks_touch}
use Rattle.path_trees.specs.Moves.{move_spot, shift}
use Rattle.path_trees.specs.Trees.{TreeMap, least_of}

-- the entries of both, with the least distance at each spot
abbrev pub joined : TreeMap → TreeMap → TreeMap
joined t u = least_of (entries t ++ entries u)

-- the entry that another goes to, if it stays
abbrev pub image : Option Spot → ℕ → List (Spot × ℕ)
image None d = []
image (Some s) d = (s, d) ∷ []

-- where a move takes entries
abbrev pub images : Move → List (Spot × ℕ) → List (Spot × ℕ)
images m [] = []
images m (e ∷ es) = image (move_spot m e.0) (shift m e.1) ++ images m es

-- each entry moved, with the least distance at each spot
abbrev pub moved : Move → TreeMap → TreeMap
moved m t = least_of (images m (entries t))

-- the part along a path
abbrev pub sub : TreeMap → List Step → TreeMap
sub t [] = t
sub t (s ∷ p) = sub (moved (Part s) t) p

-- the tree put under a path, its last step first
abbrev pub grafted : List Step → TreeMap → TreeMap
grafted [] t = t
grafted (s ∷ p) t = moved (Under s) (grafted p t)

-- what is left of the depths of a tree that a flat out takes
abbrev pub taken : Bool → TreeMap → TreeMap
taken true t = moved Collapse t
taken false t = t

-- an out applied to the part along a path. A mark that leads nowhere gives nothing
abbrev pub applied : TreeMap → List Step → Mark → TreeMap
applied t p (Source k l) = empty
applied t p (Sink k l) = empty
applied t p (Out port path flat) = grafted path (taken flat (sub t p))

-- the mark is an out
abbrev pub IsOut : Mark → Type 0
IsOut (Source k l) = ⊥
IsOut (Sink k l) = ⊥
IsOut (Out port path flat) = Unit {0}

-- a source and a sink on paths that meet
abbrev pub spots_touch : Spot → Spot → Bool
spots_touch a b = marks_touch a.mark b.mark && paths_meet a.path b.path

-- a source of the one tree and a sink of the other
abbrev pub trees_touch : TreeMap → TreeMap → Bool
trees_touch t u = list_any (λ a. list_any (λ b. spots_touch a.0 b.0) (entries u)) (entries t)
