use Rattle.py_lexer.proofs.Dedents.{not_char}
use Rattle.py_lexer.proofs.margin.char_or_dedent.Goals as goal

pub returns-in_default : goal.returns-in_default
returns-in_default c = λ s. not_char c.args.kind c.args.ahead c.in_default.not-BadChar
