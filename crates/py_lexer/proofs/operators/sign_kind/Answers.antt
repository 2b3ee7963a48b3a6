use Rattle.py_lexer.proofs.TableLemmas.{sign_found}
use Rattle.py_lexer.proofs.operators.sign_kind.Goals as goal

pub returns-then-c-lt128 : goal.returns-then-c-lt128
returns-then-c-lt128 c = sign_found c.args.c c.if-c-lt128.true
