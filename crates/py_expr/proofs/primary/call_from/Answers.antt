use Rattle.std.proofs.Common.{Some, sym, ap, arith, ◌∙◌}
use Rattle.py_expr.proofs.Calls.{none_yet, one_more, argument_stops, unclosed, closed}
use Rattle.py_expr.proofs.primary.call_from.Goals as goal

pub each_argument-init : goal.each_argument-init
each_argument-init g c = (omega arith, none_yet _ _ _ _ _ c.in_ok-begun.ensures (ap Some c.has_keyword.ensures))

pub each_argument-preserved : goal.each_argument-preserved
each_argument-preserved g c = (
  omega (arith, c.in-Ok.ensures.shorter, c.each_argument.invariant.0),
  one_more _ _ _ _ _ _ c.each_argument.invariant.1 _ _ _ _ _ (sym c.comma_state.ensures ∙ c.in-Some.is) c.in-Ok.ensures.read c.in-Ok.ensures.shorter c.in-Ok.ensures.next c.in_ok-all.ensures,
)

pub returns-in-Err-clause-read : goal.returns-in-Err-clause-read
returns-in-Err-clause-read g c ts ys h k r =
    argument_stops _ _ _ _ _ _ c.each_argument.invariant.1 _ _ _ _ _ (record { bracket = ys; opened = h; begins = k; read = r }) (sym c.comma_state.ensures ∙ c.in-Some.is) c.in-Err.ensures.read

pub returns-in-Err-mark-clause-read : goal.returns-in-Err-mark-clause-read
returns-in-Err-mark-clause-read g c ts ys h k r =
    unclosed _ _ _ _ _ _ c.each_argument.invariant.1 _ _ _ _ (record { bracket = ys; opened = h; begins = k; read = r }) (sym c.comma_state.ensures ∙ c.in_default.is) c.in-Err-mark.ensures.read

pub returns-clause-read : goal.returns-clause-read
returns-clause-read g c ts ys h k r =
    closed _ _ _ _ _ _ c.each_argument.invariant.1 _ _ _ _ _ (record { bracket = ys; opened = h; begins = k; read = r }) (sym c.comma_state.ensures ∙ c.in_default.is) c.in-Ok-mark.ensures.read
