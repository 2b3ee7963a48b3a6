use Rattle.std.proofs.Common.{◌≡◌, true, false, arith}
use Rattle.phrases.specs.Sets.{starts}
use Rattle.py_parser.proofs.Added.{added_none, added_turn, added_over, added_stopped}
use Rattle.py_parser.proofs.lists.many_into.Goals as goal

pub each_turn-init : goal.each_turn-init
each_turn-init g c = (omega arith, λ class first reader tells adds. added_none class first reader _ _)

pub each_turn-preserved : goal.each_turn-preserved
each_turn-preserved g c = (
  omega (arith, c.in-Ok.ensures.shorter, c.each_turn.invariant.0),
  λ class first reader tells adds.
      let b : starts class first c.each_turn.rest.now ≡ true = cc (c.begins_at.ensures class first tells) in
      added_turn class first reader _ _ _ _ _ _ (c.each_turn.invariant.1 class first reader tells adds) b (c.in-Ok.ensures.read reader adds) c.in-Ok.ensures.shorter,
)

pub returns-clause-read : goal.returns-clause-read
returns-clause-read g c = λ class first reader tells adds.
    let b : starts class first c.each_turn.rest.now ≡ false = cc (c.begins_at.ensures class first tells) in
    added_over class first reader _ _ _ _ (c.each_turn.invariant.1 class first reader tells adds) b

pub returns-in-Err-clause-read : goal.returns-in-Err-clause-read
returns-in-Err-clause-read g c = λ class first reader tells adds.
    let b : starts class first c.each_turn.rest.now ≡ true = cc (c.begins_at.ensures class first tells) in
    added_stopped class first reader _ _ _ _ _ (c.each_turn.invariant.1 class first reader tells adds) b (c.in-Err.ensures.read reader adds)
