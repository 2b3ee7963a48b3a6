use Rattle.std.proofs.Common.{◌∙◌, arith}
use Rattle.py_literals.proofs.Places.{last_less}
use Rattle.py_literals.proofs.place.after.Goals as goal

pub overflow_add-result-else-lines-eq0-2 : goal.overflow_add-result-else-lines-eq0-2
overflow_add-result-else-lines-eq0-2 c =
    let less = last_less c.args.chars.now (λ z. c.if-lines-eq0.false (c.line_feeds-lines.ensures.value ∙ z)) in
    omega (arith, less, c.last_len-len.ensures.value, c.requires.columns)
