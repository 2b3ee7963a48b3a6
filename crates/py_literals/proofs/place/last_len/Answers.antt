use Rattle.py_literals.proofs.Places.{last_from, last_none}
use Rattle.py_literals.proofs.place.last_len.Goals as goal
use Rattle.py_literals.proofs.place.last_len.Goals.{then-loop-before-test+else-chars-before-ne10, else-loop-before-test}

pub returns-clause-value : goal.returns-clause-value
returns-clause-value c =
    let here = c.loop-before.invariant in
    elim c.loop-before-test.branch [
      | then-loop-before-test+else-chars-before-ne10 w ↦ last_from c.args.chars.now c.loop-before.before w.index-chars-before.result w.loop-before-test.true here.within w.index-chars-before.is w.if-chars-before-ne10.false here.none
      | else-loop-before-test w ↦ last_none c.args.chars.now c.loop-before.before w.loop-before-test.false here.none
    ]
