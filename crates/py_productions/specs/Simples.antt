-- Productions of simple statements (Language Reference, chapter 7), as they stand in blocks and in files.
--   simple: .. | "assert" expr ["," expr] | "return" [exprs] | "pass" | "break" | "continue"
--   in files also: "import" item ("," item)* | "from" dotted "import" ..          item: dotted ["as" NAME]
-- `return` stands in a function, `break` and `continue` in a loop.
use Rattle.std.specs.Prelude.{◌≡◌, ℕ, Bool, true, false, List}
use Rattle.phrases.specs.Spelling.{One, Many}
use Rattle.py_lexer.specs.declared.token.Kind.TheVariants as kinds
use Rattle.py_lexer.specs.declared.token.Token.{Token}
use Rattle.py_ast.specs.Grammar.{both, second}
use Rattle.py_ast.specs.Statements.{cons, word_stmt, word_of, assert_form, imported_of, import_from}
use Rattle.py_ast.specs.declared.statement.Imported.{Imported}
use Rattle.py_ast.specs.declared.statement.Stmt.{Stmt}
use Rattle.py_ast.specs.declared.statement.StmtForm.TheVariants as stmts
use Rattle.py_productions.specs.Rules.{Rule, Word, Row, Maybe}
use Rattle.py_productions.specs.Expressions.{Expression, Expressions}
use Rattle.py_productions.specs.Targets.{AnyName}
use Rattle.py_productions.specs.Assignments.{Begun}
use Rattle.py_productions.specs.Names.{ImportedNames}
use Rattle.py_productions.specs.Members.{DottedName}

-- "assert" expr ["," expr]
abbrev pub Assertion : ℕ → Rule Stmt
Assertion room = Row (Word kinds.Assert) (Row (Expression room) (Maybe (Row (Word kinds.Comma) (Expression room) second)) both) (word_stmt assert_form)

-- "return" [exprs]
abbrev pub Returns : ℕ → Rule Stmt
Returns room = Row (Word kinds.Return) (Maybe (Expressions (Expression room))) (word_stmt stmts.Return)

-- in a function or not, and in a loop or not
pub data Simple (room : ℕ) (returns loops : Bool) (x : List Token) (s : Stmt) : Type 0 where
  begins : Begun room x s → Simple room returns loops x s
  word : One (word_of loops) x s → Simple room returns loops x s
  assertion : Assertion room x s → Simple room returns loops x s
  result : returns ≡ true → Returns room x s → Simple room returns loops x s

-- dotted ["as" NAME]
abbrev pub Item : Rule Imported
Item = Row DottedName (Maybe (Row (Word kinds.As) AnyName second)) imported_of

-- "import" item ("," item)*
abbrev pub Import : Rule Stmt
Import = Row (Word kinds.Import) (Row Item (Many (Row (Word kinds.Comma) Item second)) cons) (word_stmt stmts.Import)

-- "from" dotted "import" ..
abbrev pub ImportFrom : Rule Stmt
ImportFrom = Row (Word kinds.From) (Row DottedName (Row (Word kinds.Import) ImportedNames second) both) (word_stmt import_from)

pub data FileSimple (room : ℕ) (x : List Token) (s : Stmt) : Type 0 where
  modules : Import x s → FileSimple room x s
  names_of : ImportFrom x s → FileSimple room x s
  simple_statement : Simple room false false x s → FileSimple room x s
