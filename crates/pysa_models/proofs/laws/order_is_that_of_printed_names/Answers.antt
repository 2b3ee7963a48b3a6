use Rattle.pysa_models.proofs.Printed.{printed_order}
use Rattle.pysa_models.proofs.laws.order_is_that_of_printed_names.Goals as goal

pub returns : goal.returns
returns c = printed_order
