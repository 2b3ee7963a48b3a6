use Rattle.phrases.specs.Example.{class, call, call_sets}
use Rattle.phrases.proofs.Calls.{call_laws}
use Rattle.phrases.proofs.Outcomes.{one_tree}
use Rattle.phrases.proofs.example.one_reading.Goals as goal

pub returns : goal.returns
returns c = one_tree class call call_sets call_laws
