use Rattle.phrases.proofs.Composed.{token_laws}
use Rattle.phrases.proofs.laws.token_is_lawful.Goals as goal

pub returns : goal.returns
returns g c = λ kind codes k. token_laws k
