use Rattle.py_lexer.proofs.TokenLaws.{in_order, laid_out}
use Rattle.py_lexer.proofs.laws.layout.Goals as goal

pub returns : goal.returns
returns c = record { in_order = in_order; laid_out = laid_out }
