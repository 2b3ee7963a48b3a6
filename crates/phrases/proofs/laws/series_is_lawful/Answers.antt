use Rattle.phrases.proofs.Composed.{series_laws}
use Rattle.phrases.proofs.laws.series_is_lawful.Goals as goal

pub returns : goal.returns
returns g c = λ all next s inside aside. series_laws g.met.G.SeriesItems.lawful all inside aside next s
