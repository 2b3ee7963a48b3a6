-- Productions of lines of simple statements (Language Reference, chapter 7).
--   line: simple (";" simple)* [";"] NEWLINE
use Rattle.std.specs.Prelude.{List}
use Rattle.py_lexer.specs.declared.token.Kind.TheVariants as kinds
use Rattle.py_ast.specs.Grammar.{first_of}
use Rattle.py_ast.specs.declared.statement.Stmt.{Stmt}
use Rattle.py_productions.specs.Rules.{Rule, Word, Row, Items}

-- of which P is simple
abbrev pub Line : Rule Stmt → Rule (List Stmt)
Line P = Row (Items kinds.Semicolon P) (Word kinds.Newline) first_of
