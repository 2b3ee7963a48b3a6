use Rattle.std.proofs.Common.{◌+◌, ◌≤◌, length}
use Rattle.py_lexer.proofs.Runs.{Leads}
use Rattle.py_lexer.proofs.Sizes.{size}
use Rattle.py_lexer.proofs.lexing.tokens_of.Given as goal

abbrev pub invariant-pieces : goal.invariant-pieces
invariant-pieces l = record {
  leads : Leads l.text l.tokens.items l.at l.state l.rest;
  line : l.at.line + length l.rest ≤ length l.text + 1;
  col : l.at.col + length l.rest ≤ length l.text + 1;
}

abbrev pub decreases-pieces : goal.decreases-pieces
decreases-pieces l = size l.state l.rest
