use Rattle.phrases.proofs.Composed.{sequence_laws}
use Rattle.phrases.proofs.laws.sequence_is_lawful.Goals as goal

pub returns : goal.returns
returns g c = λ f whole aside. sequence_laws (g.met.G.Productions.lawful tt) g.met.H.Productions.lawful f whole aside
