use Rattle.phrases.proofs.Composed.{opener_laws}
use Rattle.phrases.proofs.laws.opener_is_lawful.Goals as goal

pub returns : goal.returns
returns g c = λ kind codes room n k. opener_laws room n k
