use Rattle.std.proofs.Common.{List, Err, subst}
use Rattle.py_lexer.specs.declared.token.Token.{Token}
use Rattle.py_expr.specs.Judged.{Judged}
use Rattle.py_expr.proofs.reading.expression.Goals as goal

pub returns-in-Err-Fault-Syntax-default : goal.returns-in-Err-Fault-Syntax-default
returns-in-Err-Fault-Syntax-default c =
    record { judged = subst (λ (ts : List Token). Judged c.args.at ts (Err c.judged_unfinished.result)) c.split_at.ensures.back (c.judged_unfinished.ensures c.args.at) }

pub returns-in-Err-Fault-TooDeep-default : goal.returns-in-Err-Fault-TooDeep-default
returns-in-Err-Fault-TooDeep-default c =
    record { judged = subst (λ (ts : List Token). Judged c.args.at ts (Err c.judged_deep.result)) c.split_at.ensures.back (c.judged_deep.ensures c.args.at) }
