-- Marks and spots: what is known at a place of a value, how they are ordered, and what a cut does to them.
use Rattle.std.specs.Prelude.{ℕ, Bool, true, false, cond, ◌<◌, ◌^◌, ◌++◌, List, [], ◌∷◌, length, take, nat_lt}
use Rattle.std.specs.Ordering.{nat_cmp, bool_cmp, ordering_then}
use Rattle.std.specs.declared.cmp.Ordering.{Ordering}
use Rattle.std.specs.declared.cmp.Ordering.TheVariants.{Less, Equal, Greater}
use Rattle.path_trees.specs.declared.steps.Step.{Step}
use Rattle.path_trees.specs.declared.marks.Port.{Port}
use Rattle.path_trees.specs.declared.marks.Port.TheVariants.{Result, Cell}
use Rattle.path_trees.specs.declared.marks.Mark.{Mark}
use Rattle.path_trees.specs.declared.marks.Mark.TheVariants.{Source, Sink, Out}
use Rattle.path_trees.specs.declared.spots.Spot.{Spot}
use Rattle.path_trees.specs.Steps.{step_order, path_order, IsHeldPath, IsHeldStep}

-- a source, then a sink, then an out
abbrev pub mark_rank : Mark → ℕ
mark_rank (Source k l) = 0
mark_rank (Sink k l) = 1
mark_rank (Out port path flat) = 2

-- the result comes before the cells, which are ordered by their steps
abbrev pub port_order : Port → Port → Ordering
port_order Result Result = Equal
port_order Result (Cell b) = Less
port_order (Cell a) Result = Greater
port_order (Cell a) (Cell b) = step_order a b

-- marks of one sort are ordered by their parts, and others by their sort
abbrev pub mark_order : Mark → Mark → Ordering
mark_order (Source k l) (Source m n) = ordering_then (nat_cmp k m) (nat_cmp l n)
mark_order (Sink k l) (Sink m n) = ordering_then (nat_cmp k m) (nat_cmp l n)
mark_order (Out p q f) (Out r s g) = ordering_then (port_order p r) (ordering_then (path_order q s) (bool_cmp f g))
mark_order a b = nat_cmp (mark_rank a) (mark_rank b)

-- spots are ordered by path, and then by mark
abbrev pub spot_order : Spot → Spot → Ordering
spot_order a b = ordering_then (path_order a.path b.path) (mark_order a.mark b.mark)

-- an out mark that no longer tells at which depth it was
abbrev pub flattened : Mark → Mark
flattened (Source k l) = Source k l
flattened (Sink k l) = Sink k l
flattened (Out port path flat) = Out port path true

-- a spot below depth four moves to its ancestor of depth four, where an out becomes flat
abbrev pub cut : Spot → Spot
cut s = cond (nat_lt 4 (length s.path)) (record { path = take 4 s.path; mark = flattened s.mark }) s

-- an out whose own path is cut to four steps becomes flat
abbrev pub cut_out : Port → List Step → Mark
cut_out port path = cond (nat_lt 4 (length path)) (Out port (take 4 path) true) (Out port path false)

-- a mark read on by a step: an out that is not flat goes on by it
abbrev pub read_on : Step → Mark → Mark
read_on s (Source k l) = Source k l
read_on s (Sink k l) = Sink k l
read_on s (Out port path true) = Out port path true
read_on s (Out port path false) = cut_out port (path ++ s ∷ [])

-- a source and a sink
abbrev pub marks_touch : Mark → Mark → Bool
marks_touch (Source k l) (Sink m n) = true
marks_touch a b = false

-- a port that a program can hold
abbrev pub IsHeldPort : Port → Type 0
IsHeldPort Result = Unit {0}
IsHeldPort (Cell s) = IsHeldStep s

-- a mark that a program can hold
abbrev pub IsHeldMark : Mark → Type 0
IsHeldMark (Source k l) = (k < 2 ^ 8) × (l < 2 ^ 32)
IsHeldMark (Sink k l) = (k < 2 ^ 8) × (l < 2 ^ 32)
IsHeldMark (Out port path flat) = IsHeldPort port × IsHeldPath path

-- a spot that a program can hold
pub record IsHeldSpot (s : Spot) : Type 0 where
  pub path : IsHeldPath s.path
  pub mark : IsHeldMark s.mark
