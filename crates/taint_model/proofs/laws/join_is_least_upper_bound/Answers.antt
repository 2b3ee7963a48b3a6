use Rattle.taint_model.proofs.ModelFacts.{model_join_first, model_join_least, model_join_second}
use Rattle.taint_model.proofs.laws.join_is_least_upper_bound.Goals as goal

pub returns-clause-first : goal.returns-clause-first
returns-clause-first c = model_join_first

pub returns-clause-second : goal.returns-clause-second
returns-clause-second c = model_join_second

pub returns-clause-least : goal.returns-clause-least
returns-clause-least c = model_join_least
