use Rattle.std.proofs.Common.{◌∙◌, arith}
use Rattle.py_literals.proofs.Turns.{hex_end}
use Rattle.py_literals.proofs.escape.hex.Goals as goal

pub returns-clause-value : goal.returns-clause-value
returns-clause-value c =
    hex_end c.digits.value c.digits.left c.digits.rest.now c.from_u32.result (omega arith) c.from_u32.ensures.value
    ∙ c.digits.invariant.same
