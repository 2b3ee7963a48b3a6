use Rattle.phrases.proofs.Composed.{larger_laws}
use Rattle.phrases.proofs.laws.larger_sets_are_lawful.Goals as goal

pub returns : goal.returns
returns g c = λ i s fit. larger_laws s (g.met.G.Productions.lawful i) fit
