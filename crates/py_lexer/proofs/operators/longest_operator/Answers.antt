use Rattle.std.proofs.Common.{◌∙◌, sym, ap, None, arith}
use Rattle.std.proofs.lemmas.List.{get_or_read}
use Rattle.py_lexer.specs.Operators.{sign, operator_or, may_go_on}
use Rattle.py_lexer.proofs.OperatorLemmas.{alone}
use Rattle.py_lexer.proofs.operators.longest_operator.Goals as goal

pub returns-else-may_go_on : goal.returns-else-may_go_on
returns-else-may_go_on c =
    let chars = c.args.chars.now in
    let a = get_or_read chars 0 c.a-item-2.result (grind arith) c.a-item-2.is 0 in
    let b = get_or_read chars 1 c.b-item-2.result (grind arith) c.b-item-2.is 0 in
    let single = sym (ap may_go_on b) ∙ sym c.may_go_on.ensures ∙ c.if-may_go_on.false in
    c.operator_or-one.ensures ∙ ap (λ k. operator_or 1 k None) (c.sign-in-len3-up.ensures ∙ ap sign a) ∙ sym (alone chars (grind arith) single)
