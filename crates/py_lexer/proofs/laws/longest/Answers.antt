use Rattle.py_lexer.proofs.TokenLaws.{matched_longest}
use Rattle.py_lexer.proofs.laws.longest.Goals as goal

pub returns : goal.returns
returns c = matched_longest
