use Rattle.std.proofs.Common.{◌≤◌, ◌∙◌, sym, length, arith}
use Rattle.py_literals.proofs.Turns.{body_run}
use Rattle.py_literals.proofs.text.behind_run.Goals as goal

pub returns-else-has_mark-clause-same : goal.returns-else-has_mark-clause-same
returns-else-has_mark-clause-same c =
    let long : 16 ≤ length c.args.chars.now = omega (arith, c.if-chars-lt-RUN.false) in
    body_run c.args.kind.now c.args.chars.now c.split_at.result.0.now c.split_at.result.1.now long c.split_at.ensures.front c.split_at.ensures.back (sym c.has_mark.ensures ∙ c.if-has_mark.false)
