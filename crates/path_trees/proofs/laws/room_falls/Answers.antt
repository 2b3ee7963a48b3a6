use Rattle.path_trees.proofs.Rooms.{room-falls, room-mono}
use Rattle.path_trees.proofs.laws.room_falls.Goals as goal

pub returns-clause-falls : goal.returns-clause-falls
returns-clause-falls c = room-falls

pub returns-clause-keeps : goal.returns-clause-keeps
returns-clause-keeps c = room-mono
