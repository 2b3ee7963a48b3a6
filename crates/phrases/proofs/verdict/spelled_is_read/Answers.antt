use Rattle.phrases.proofs.verdict.spelled_is_read.Goals as goal

pub returns : goal.returns
returns g c = λ room x a y. (g.met.G.Grammar.lawful room 0).law.again x a y
