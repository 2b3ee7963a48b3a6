use Rattle.taint_model.proofs.RoomFacts.{model_room-falls, model_room-mono}
use Rattle.taint_model.proofs.laws.room_falls.Goals as goal

pub returns-clause-falls : goal.returns-clause-falls
returns-clause-falls c = model_room-falls

pub returns-clause-keeps : goal.returns-clause-keeps
returns-clause-keeps c = model_room-mono
