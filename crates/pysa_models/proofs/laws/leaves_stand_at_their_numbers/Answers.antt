use Rattle.pysa_models.proofs.Places.{leaf_at_number}
use Rattle.pysa_models.proofs.laws.leaves_stand_at_their_numbers.Goals as goal

pub returns : goal.returns
returns c = leaf_at_number
