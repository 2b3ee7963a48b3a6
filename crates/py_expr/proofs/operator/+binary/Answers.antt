use Rattle.std.proofs.Common.{◌≡◌, ◌∙◌, ap, sym, arith}
use Rattle.std.proofs.lemmas.Result.{err_from_is_err_and}
use Rattle.phrases.specs.Sets.{has}
use Rattle.py_ast.specs.Kinds.{class}
use Rattle.py_ast.specs.Tokens.{level_codes}
use Rattle.py_ast.specs.Grammar.{operand, binary, Factor, shaped}
use Rattle.py_expr.proofs.Alone.{binary_fails, binary_next_alone}
use Rattle.py_expr.proofs.operator.+binary.Goals as goal
use Rattle.py_expr.proofs.operator.+binary.Goals.{binary_from-then-stands_operand+in_ok-joined, binary_from-else-stands_operand}

pub operands_by-returns-clause-read : goal.operands_by-returns-clause-read
operands_by-returns-clause-read g t c =
    c.many.ensures.read class (level_codes c.args.level) (operand c.args.level (binary c.args.level (shaped Factor c.args.room))).read (λ k b h. h.says.met ∙ ap (λ v. has (level_codes c.args.level) (class v)) h.shows) (λ ts r h. h.0)

pub binary_by-returns-in_err-first-clause-read : goal.binary_by-returns-in_err-first-clause-read
binary_by-returns-in_err-first-clause-read g t c =
    let p = err_from_is_err_and c.from_residual.result c.from_residual.ensures.1 in
    rw (p.1, p.2) (binary_fails c.args.levels (shaped Factor c.args.room) c.args.tokens.now c.in_err-first.field-0.0 c.in_err-first.ensures.read)

pub binary_from-loop-level-init : goal.binary_from-loop-level-init
unfolding binary
binary_from-loop-level-init g t c = (omega arith, λ ts h. h)

pub binary_from-returns-in_err-joined-clause-read : goal.binary_from-returns-in_err-joined-clause-read
binary_from-returns-in_err-joined-clause-read g t c = λ ts h.
    let l = c.loop-level in
    let p = err_from_is_err_and c.from_residual.result c.from_residual.ensures.1 in
    rw (p.1, p.2) (c.in_err-joined.ensures.stops ts c.args.levels (omega (arith, c.loop-level-test.true)) (l.invariant.1 ts h))

pub binary_from-loop-level-preserved : goal.binary_from-loop-level-preserved
binary_from-loop-level-preserved g t c =
    let l = c.loop-level in
    elim c.if-stands_operand.branch [
      | binary_from-then-stands_operand+in_ok-joined w ↦
          rw (w.value-is, w.rest-is) (
            omega (arith, w.in_ok-joined.ensures.no_longer, l.invariant.0),
            λ ts h. w.in_ok-joined.ensures.read ts (l.invariant.1 ts h),
          )
      | binary_from-else-stands_operand w ↦
          rw (w.value-is, w.rest-is) (l.invariant.0, λ ts h. binary_next_alone l.level c.args.room ts l.value l.rest.now (l.invariant.1 ts h) (sym w.if-stands_operand.ensures))
    ]
