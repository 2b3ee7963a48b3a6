use Rattle.std.proofs.Common.{◌≡◌, drop, string_bytes}
use Rattle.py_ast.specs.Trees.{plain_text}
use Rattle.py_expr.proofs.Texts.{before}
use Rattle.py_expr.proofs.strings.plain_text.Given as goal

abbrev pub invariant-loop-piece : goal.invariant-loop-piece
invariant-loop-piece l = before (string_bytes l.text) (plain_text (drop l.piece-index l.pieces)) ≡ plain_text l.pieces
