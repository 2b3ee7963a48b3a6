use Rattle.phrases.proofs.Composed.{many_laws}
use Rattle.phrases.proofs.laws.many_is_lawful.Goals as goal

pub returns : goal.returns
returns g c = λ whole aside. many_laws (g.met.G.Productions.lawful tt) whole aside
