use Rattle.py_lexer.proofs.TableLemmas.{class_found}
use Rattle.py_lexer.proofs.chars.class_of.Goals as goal

pub returns-then-c-lt128 : goal.returns-then-c-lt128
returns-then-c-lt128 c = class_found c.args.c c.if-c-lt128.true
