use Rattle.std.proofs.lemmas.Result.{err_from_is_err_and}
use Rattle.py_ast.specs.Grammar.{Whole, nested}
use Rattle.py_expr.proofs.Ends.{primary_fails}
use Rattle.py_expr.proofs.primary.primary_by.Goals as goal

pub returns-in_err-base-clause-read : goal.returns-in_err-base-clause-read
returns-in_err-base-clause-read g c =
    let p = err_from_is_err_and c.from_residual.result c.from_residual.ensures.1 in
    rw (p.1, p.2) (primary_fails c.args.room (nested c.args.room Whole) c.args.tokens.now c.in_err-base.field-0.0 c.in_err-base.ensures.read)
