use Rattle.taint_model.specs.Models.{ModelBelow}
use Rattle.taint_model.proofs.ModelFacts.{model_join_below}
use Rattle.taint_model.proofs.RoomFacts.{model_room_join}
use Rattle.taint_model.proofs.models.Model.join_in.Goals as goal

pub returns-then-model_le-clause-exact : goal.returns-then-model_le-clause-exact
returns-then-model_le-clause-exact c = model_join_below c.args.self.now c.args.other.now c.requires c.know.ensures.puts.some c.know-2.ensures.puts.some (c.model_le.ensures.0 c.if-model_le.true)

pub returns-clause-room : goal.returns-clause-room
returns-clause-room c = λ _.
    let no : ModelBelow c.args.other.now c.args.self.now → ⊥ = λ b. let e = c.model_le.ensures.1 b in cc in
    model_room_join c.args.self.now c.args.other.now c.in_ok-joined.joined c.requires c.know-3.ensures c.in_ok-joined.ensures no
