use Rattle.pysa_syntax.proofs.NoForms.{no_form_spelled}
use Rattle.pysa_syntax.proofs.laws.no_form_is_read.Goals as goal

pub returns : goal.returns
returns c = no_form_spelled
