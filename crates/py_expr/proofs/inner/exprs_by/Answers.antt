use Rattle.std.proofs.lemmas.Result.{err_from_is_err_and}
use Rattle.py_ast.specs.Grammar.{Whole, nested}
use Rattle.py_expr.proofs.Ends.{exprs_fails}
use Rattle.py_expr.proofs.inner.exprs_by.Goals as goal

pub returns-in_err-first-clause-read : goal.returns-in_err-first-clause-read
returns-in_err-first-clause-read g c =
    let p = err_from_is_err_and c.from_residual.result c.from_residual.ensures.1 in
    rw (p.1, p.2) (exprs_fails (nested c.args.room Whole) c.args.tokens.now c.in_err-first.field-0.0 c.in_err-first.ensures.read)
