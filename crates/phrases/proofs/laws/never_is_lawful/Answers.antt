use Rattle.phrases.proofs.Nested.{never_laws}
use Rattle.phrases.proofs.laws.never_is_lawful.Goals as goal

pub returns : goal.returns
returns g c = λ whole.
    let l = g.met.G.Productions.lawful tt in
    never_laws g.T.Classed.class g.G.Productions.sets whole (g.G.Productions.wider tt) (g.G.Productions.any tt) l.law.some (record { begins = l.law.begins; empty = l.law.empty }) (record { begins = l.wide.begins; empty = l.wide.empty })
