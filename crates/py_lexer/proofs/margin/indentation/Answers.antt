use Rattle.std.proofs.Common.{◌≡◌, IfOk, subst}
use Rattle.py_lexer.specs.Front.{Front, front_of}
use Rattle.py_lexer.proofs.Dedents.{last_fault}
use Rattle.py_lexer.proofs.margin.indentation.Goals as goal

pub returns-else-is_open : goal.returns-else-is_open
returns-else-is_open c =
    let P : Front → Type 0 = λ f. IfOk c.bad_dedent.result (λ p. front_of p c.bad_dedent.new.state ≡ f) in
    subst P (last_fault c.args.at c.args.state.now c.args.column c.args.first c.top-top.result c.args.rest.now c.is_open.result c.top-top.ensures c.if-column-top.false c.if-top-column.false c.is_open.ensures c.if-is_open.false) c.bad_dedent.ensures
