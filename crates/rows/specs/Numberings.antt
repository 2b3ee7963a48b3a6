-- Other numbers for the callables of a program: its bodies, its trees, and a core's state by these numbers.
use Rattle.std.specs.Prelude.{◌≡◌, ℕ, [], map, Option, Some, None}
use Rattle.rows.specs.Families.{Families}
use Rattle.rows.specs.Programs.{Body, Bodies, callee_tree}
use Rattle.rows.specs.Cores.{CoreTask, CoreState}

-- each callable has a number of its own, and of each number it is told whose it is
pub record Numbering : Type 0 where
  pub number : ℕ → ℕ
  pub callable : ℕ → Option ℕ
  pub its_own : (g : ℕ) → callable (number g) ≡ Some g
  pub its_only : (h g : ℕ) → callable h ≡ Some g → number g ≡ h

-- a body whose callees are named by other numbers
abbrev pub renamed_body : (ℕ → ℕ) → Body → Body
renamed_body number b = record { rows = b.rows; callees = map number b.callees }

-- the body of a callable that may be there
abbrev pub body_of : (ℕ → ℕ) → Bodies → Option ℕ → Body
body_of number bodies None = record { rows = []; callees = [] }
body_of number bodies (Some g) = renamed_body number (bodies g)

-- the bodies by their new numbers; a number that no callable has is one without rows
abbrev pub renamed_bodies : Numbering → Bodies → Bodies
renamed_bodies n bodies h = body_of n.number bodies (n.callable h)

-- and the trees
abbrev pub renamed_trees : Numbering → Families → Families
renamed_trees n M h p = callee_tree M (n.callable h) p

abbrev pub stamp_of : (ℕ → ℕ) → Option ℕ → ℕ
stamp_of stamps None = 0
stamp_of stamps (Some g) = stamps g

abbrev pub task_of : (ℕ → Option CoreTask) → Option ℕ → Option CoreTask
task_of out None = None
task_of out (Some g) = out g

-- a core's state by the new numbers. What a task's body was given stays: there callees have positions, and who puts something
-- into a cell does not matter
abbrev pub renamed_state : Numbering → CoreState → CoreState
renamed_state n s = record {
  bodies = renamed_bodies n s.bodies;
  trees = renamed_trees n s.trees;
  stamps = λ h. stamp_of s.stamps (n.callable h);
  ready = map n.number s.ready;
  out = λ h. task_of s.out (n.callable h);
  edits = s.edits;
}
