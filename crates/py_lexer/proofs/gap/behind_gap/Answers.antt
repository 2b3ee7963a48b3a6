use Rattle.py_lexer.proofs.Spaces.{gap_told}
use Rattle.py_lexer.proofs.gap.behind_gap.Goals as goal

pub returns-in-Inside-clause-rest : goal.returns-in-Inside-clause-rest
returns-in-Inside-clause-rest c = gap_told c.behind_white.result (λ rest. rest.now) c.args.state.now c.args.chars.now c.behind_white.ensures.rest
