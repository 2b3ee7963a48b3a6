use Rattle.phrases.proofs.Composed.{either_laws}
use Rattle.phrases.proofs.laws.either_is_lawful.Goals as goal

pub returns : goal.returns
returns g c = λ whole aside. either_laws (g.met.G.Productions.lawful tt) (g.met.H.Productions.lawful tt) whole aside
