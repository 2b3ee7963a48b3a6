use Rattle.phrases.proofs.Outcomes.{verdict}
use Rattle.phrases.proofs.verdict.outcome_is_true.Goals as goal

pub returns : goal.returns
returns g c = λ room ts. verdict g.T.Classed.class g.G.Grammar.phrase g.G.Grammar.sets room (λ n. g.met.G.Grammar.lawful room n) ts
