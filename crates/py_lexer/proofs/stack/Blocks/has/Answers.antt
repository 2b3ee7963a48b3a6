use Rattle.py_lexer.proofs.Columns.{has_column_reverse}
use Rattle.py_lexer.proofs.stack.Blocks.has.Goals as goal

pub returns : goal.returns
returns c = rw (← c.self.view_is, c.contains.ensures.value, c.deref.ensures.value) (has_column_reverse c.self.inside.columns.items c.args.column)
