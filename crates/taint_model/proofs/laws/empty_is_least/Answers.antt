use Rattle.taint_model.proofs.ModelFacts.{model_empty}
use Rattle.taint_model.proofs.laws.empty_is_least.Goals as goal

pub returns : goal.returns
returns c = model_empty
