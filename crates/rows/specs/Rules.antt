-- What a call makes of the backward tree of a callee's parameter: its sinks and outs, at the paths of the argument.
use Rattle.std.specs.Prelude.{ℕ, Bool, true, false, cond, List, [], ◌∷◌}
use Rattle.std.specs.FinMap.{empty, entries}
use Rattle.path_trees.specs.declared.steps.Step.{Step}
use Rattle.path_trees.specs.declared.marks.Port.{Port}
use Rattle.path_trees.specs.declared.marks.Port.TheVariants.{Result, Cell}
use Rattle.path_trees.specs.declared.marks.Mark.{Mark}
use Rattle.path_trees.specs.declared.marks.Mark.TheVariants.{Source, Sink, Out}
use Rattle.path_trees.specs.declared.spots.Spot.{Spot}
use Rattle.path_trees.specs.declared.moves.Move.{Move}
use Rattle.path_trees.specs.declared.moves.Move.TheVariants.{Bump}
use Rattle.path_trees.specs.Steps.{step_equal}
use Rattle.path_trees.specs.Moves.{shift}
use Rattle.path_trees.specs.Trees.{TreeMap, with_entry}
use Rattle.path_trees.specs.Operations.{joined, moved, sub, grafted, taken, applied}

-- a tree moved by one move after the other, the first one first
abbrev pub moved_all : List Move → TreeMap → TreeMap
moved_all [] t = t
moved_all (m ∷ moves) t = moved_all moves (moved m t)

-- the join of what is made of each entry
abbrev pub join_of : (Spot → ℕ → TreeMap) → List (Spot × ℕ) → TreeMap
join_of made [] = empty
join_of made (e ∷ es) = joined (made e.0 e.1) (join_of made es)

-- what goes on from a callee to its callers: sinks, and outs to cells
abbrev pub goes_on : Mark → Bool
goes_on (Source k l) = false
goes_on (Sink k l) = true
goes_on (Out Result path flat) = false
goes_on (Out (Cell c) path flat) = true

-- such an entry, one farther away
abbrev pub carried_entry : Spot → ℕ → TreeMap
carried_entry s d = cond (goes_on s.mark) (with_entry empty s (shift Bump d)) empty

-- what is wanted of an argument since the callee wants it of its parameter
abbrev pub carried : TreeMap → TreeMap
carried back = join_of carried_entry (entries back)

-- an out to the result
abbrev pub leads_to_result : Mark → Bool
leads_to_result (Source k l) = false
leads_to_result (Sink k l) = false
leads_to_result (Out Result path flat) = true
leads_to_result (Out (Cell c) path flat) = false

-- an out to a cell
abbrev pub leads_to_cell : Step → Mark → Bool
leads_to_cell s (Source k l) = false
leads_to_cell s (Sink k l) = false
leads_to_cell s (Out Result path flat) = false
leads_to_cell s (Out (Cell c) path flat) = step_equal c s

-- what an out to the result makes of the tree of an argument
abbrev pub through_entry : TreeMap → Spot → ℕ → TreeMap
through_entry t s d = cond (leads_to_result s.mark) (applied t s.path s.mark) empty

-- what comes to the result of a call out of an argument
abbrev pub through : TreeMap → TreeMap → TreeMap
through t back = join_of (through_entry t) (entries back)

-- what an out to a cell makes of the tree of an argument
abbrev pub put_entry : Step → TreeMap → Spot → ℕ → TreeMap
put_entry c t s d = cond (leads_to_cell c s.mark) (applied t s.path s.mark) empty

-- what a call puts into a cell out of an argument
abbrev pub put_through : Step → TreeMap → TreeMap → TreeMap
put_through c t back = join_of (put_entry c t) (entries back)

-- what is wanted at a path of an argument, where the mark there is an out to the result, of which a tree is wanted
abbrev pub wanted_mark : TreeMap → List Step → Mark → TreeMap
wanted_mark w p (Source k l) = empty
wanted_mark w p (Sink k l) = empty
wanted_mark w p (Out Result path flat) = grafted p (taken flat (sub w path))
wanted_mark w p (Out (Cell c) path flat) = empty

abbrev pub wanted_entry : TreeMap → Spot → ℕ → TreeMap
wanted_entry w s d = wanted_mark w s.path s.mark

-- what is wanted of an argument since a tree is wanted of the result of the call
abbrev pub wanted : TreeMap → TreeMap → TreeMap
wanted w back = join_of (wanted_entry w) (entries back)
