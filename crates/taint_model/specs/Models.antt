-- Models (summaries) of callables: what flows out of a call, what is wanted of its arguments, and what it puts into cells.
use Rattle.std.specs.Prelude.{ℕ, ◌+◌}
use Rattle.std.specs.FinMap.{empty}
use Rattle.path_trees.specs.Trees.{Below, IsHeldTree}
use Rattle.path_trees.specs.Operations.{joined}
use Rattle.path_trees.specs.Room.{room}
use Rattle.taint_model.specs.declared.models.Model.{Model}
use Rattle.taint_model.specs.Puts.{ArePutsHeld, PutsBelow, joined_puts, put_room}
use Rattle.taint_model.specs.Lists.{AreTreesHeld, TreesBelow, empty_trees, joined_trees, list_room}

-- the model of a callable with some parameters of which nothing is known
abbrev pub empty_model : ℕ → Model
empty_model params = record { result = empty; back = empty_trees params; puts = empty }

-- each tree is below the other's
pub record ModelBelow (a b : Model) : Type 0 where
  pub result : Below a.result b.result
  pub back : TreesBelow a.back b.back
  pub puts : PutsBelow a.puts b.puts

-- each tree joined to the other's
abbrev pub joined_models : Model → Model → Model
joined_models a b = record { result = joined a.result b.result; back = joined_trees a.back b.back; puts = joined_puts a.puts b.puts }

-- a model that a program can hold
pub record IsHeldModel (m : Model) : Type 0 where
  pub result : IsHeldTree m.result
  pub back : AreTreesHeld m.back
  pub puts : ArePutsHeld m.puts

-- the room above all its trees
unfoldable pub model_room : Model → ℕ
model_room m = room m.result + list_room m.back + put_room m.puts
