use Rattle.std.proofs.Common.{◌≡◌, ◌+◌, ◌*◌, ◌≤◌, List, length}
use Rattle.phrases.specs.Reading.{Read}
use Rattle.py_lexer.specs.declared.token.Token.{Token}
use Rattle.py_ast.specs.Grammar.{binary, Factor, shaped}
use Rattle.py_expr.proofs.operator.+binary.Given as goal

abbrev pub decreases-binary_by : goal.decreases-binary_by
decreases-binary_by g l = 8 * l.levels + 1

abbrev pub decreases-binary_from : goal.decreases-binary_from
decreases-binary_from g l = 8 * l.levels

abbrev pub decreases-level_from : goal.decreases-level_from
decreases-level_from g l = 8 * l.level + 5

abbrev pub decreases-operands_by : goal.decreases-operands_by
decreases-operands_by g l = 8 * l.level + 4

abbrev pub decreases-operands_by-many+arg4 : goal.decreases-operands_by-many+arg4
decreases-operands_by-many+arg4 g l = 8 * l.level + 3

abbrev pub decreases-operand_by : goal.decreases-operand_by
decreases-operand_by g l = 8 * l.level + 2

abbrev pub invariant-binary_from-loop-level : goal.invariant-binary_from-loop-level
invariant-binary_from-loop-level g l =
    (length l.rest ≤ length l.fn.tokens)
    × ((ts : List Token) → (shaped Factor l.fn.room).read ts ≡ Read l.fn.first l.fn.tokens → (binary l.level (shaped Factor l.fn.room)).read ts ≡ Read l.value l.rest)
