use Rattle.phrases.proofs.Outcomes.{taken}
use Rattle.phrases.proofs.verdict.taken_is_spelled.Goals as goal

pub returns : goal.returns
returns g c = λ room ts a y. taken ((g.met.G.Grammar.lawful room 0).law.front ts)
