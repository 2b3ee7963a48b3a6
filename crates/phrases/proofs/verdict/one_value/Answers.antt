use Rattle.phrases.proofs.Outcomes.{one_tree}
use Rattle.phrases.proofs.verdict.one_value.Goals as goal

pub returns : goal.returns
returns g c = λ x a b. one_tree g.T.Classed.class g.G.Grammar.phrase g.G.Grammar.sets g.met.G.Grammar.lawful x a b
