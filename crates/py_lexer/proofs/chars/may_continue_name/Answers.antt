use Rattle.py_lexer.proofs.TableLemmas.{continues_found}
use Rattle.py_lexer.proofs.chars.may_continue_name.Goals as goal

pub returns-then-c-lt128 : goal.returns-then-c-lt128
returns-then-c-lt128 c = continues_found c.args.c c.if-c-lt128.true
