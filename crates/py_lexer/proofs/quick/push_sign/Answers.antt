use Rattle.std.proofs.Common.{◌≡◌, ◌∙◌, sym, ap, false, get_or, arith, rules}
use Rattle.std.proofs.lemmas.List.{get_or_read}
use Rattle.py_lexer.specs.declared.token.Value.TheVariants as values
use Rattle.py_lexer.specs.Operators.{sign, may_go_on}
use Rattle.py_lexer.proofs.OperatorLemmas.{kind_found}
use Rattle.py_lexer.proofs.QuickLemmas.{sign_found}
use Rattle.py_lexer.proofs.quick.push_sign.Goals as goal

pub returns-clause-some : goal.returns-clause-some
returns-clause-some c = λ l.
    let rest = c.args.rest.now in
    let kind = c.sign_kind-kind.result in
    let b = get_or_read rest 0 c.second-item.result (grind arith) c.second-item.is 0 in
    let single : may_go_on (get_or rest 0 0) ≡ false = sym (ap may_go_on b) ∙ sym c.may_go_on.ensures ∙ c.if-may_go_on.false in
    let found = kind_found (sign c.args.first) kind c.sign_kind-kind.ensures (search rules) in
    record {
      kind = kind;
      value = values.Nothing;
      found = rw c.in_ok-bracket.ensures (sign_found c.args.at c.args.state.now c.args.first rest kind (grind arith) single found);
      pushed = c.in_ok-push_plain.ensures;
    }
