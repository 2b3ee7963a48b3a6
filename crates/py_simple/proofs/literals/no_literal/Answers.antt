use Rattle.std.proofs.Common.{sym, ◌∙◌}
use Rattle.py_simple.proofs.Never.{literal_too_deep, literal_lacks}
use Rattle.py_simple.proofs.literals.no_literal.Goals as goal

pub returns-then-stands_literal-clause-read : goal.returns-then-stands_literal-clause-read
returns-then-stands_literal-clause-read c = literal_too_deep _ (sym c.stands_literal.ensures ∙ c.if-stands_literal.true)

pub returns-else-stands_literal-clause-read : goal.returns-else-stands_literal-clause-read
returns-else-stands_literal-clause-read c = literal_lacks _ (sym c.stands_literal.ensures ∙ c.if-stands_literal.false)
