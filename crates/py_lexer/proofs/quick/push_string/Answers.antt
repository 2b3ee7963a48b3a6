use Rattle.std.proofs.Common.{arith}
use Rattle.py_lexer.specs.declared.token.Kind.TheVariants as kinds
use Rattle.py_lexer.specs.declared.token.Value.TheVariants as values
use Rattle.py_lexer.proofs.NearLemmas.{near_string, near_one_line}
use Rattle.py_lexer.proofs.quick.push_string.Goals as goal

pub returns-clause-some : goal.returns-clause-some
returns-clause-some c = λ t s.
    let told = c.in-Some.ensures in
    record {
      kind = kinds.Text;
      value = values.Text c.in-Some-front.text;
      found = rw c.in-Some-front.ensures (near_string s c.args.quote c.in-Some.len c.args.rest.now c.requires (omega (arith, c.if-len-eq0.false)) told.within told.plain told.closed);
      pushed = c.in_ok-push.ensures.items;
    }

pub returns-clause-in_line : goal.returns-clause-in_line
returns-clause-in_line c =
    let told = c.in-Some.ensures in
    near_one_line c.args.quote c.in-Some.len c.args.rest.now c.requires told.plain told.closed
