use Rattle.taint_model.proofs.ModelFacts.{model_antisymm, model_refl, model_trans}
use Rattle.taint_model.proofs.laws.order_is_partial.Goals as goal

pub returns-clause-reflexive : goal.returns-clause-reflexive
returns-clause-reflexive c = model_refl

pub returns-clause-transitive : goal.returns-clause-transitive
returns-clause-transitive c = model_trans

pub returns-clause-antisymmetric : goal.returns-clause-antisymmetric
returns-clause-antisymmetric c = model_antisymm
