use Rattle.std.proofs.Common.{◌∙◌}
use Rattle.py_scopes.proofs.FaultLemmas.{named_parameter}
use Rattle.py_scopes.proofs.first_fault.is_parameter.Goals as goal

pub returns : goal.returns
returns c = c.has_name.ensures ∙ named_parameter c.args.name.now c.args.items.now
