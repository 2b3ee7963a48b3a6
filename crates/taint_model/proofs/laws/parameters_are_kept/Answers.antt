use Rattle.taint_model.proofs.ModelFacts.{model_join_length, model_length}
use Rattle.taint_model.proofs.ListFacts.{length_empty_trees}
use Rattle.taint_model.proofs.laws.parameters_are_kept.Goals as goal

pub returns-clause-empty : goal.returns-clause-empty
returns-clause-empty c = length_empty_trees

pub returns-clause-below : goal.returns-clause-below
returns-clause-below c = model_length

pub returns-clause-join : goal.returns-clause-join
returns-clause-join c = model_join_length
