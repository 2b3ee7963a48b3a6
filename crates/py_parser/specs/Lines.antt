-- Lines of simple statements, by where they stand (Language Reference, chapter 7).
use Rattle.std.specs.Prelude.{ℕ, List, [], ◌∷◌}
use Rattle.phrases.specs.Phrases.{Phrase}
use Rattle.phrases.specs.Reading.{Outcome}
use Rattle.phrases.specs.Series.{series}
use Rattle.py_lexer.specs.declared.token.Token.{Token}
use Rattle.py_ast.specs.Kinds.{class}
use Rattle.py_ast.specs.Trees.{given}
use Rattle.py_ast.specs.Grammar.{mapped, ended, goes_past}
use Rattle.py_ast.specs.Statements.{simple, simple_first, further, line}
use Rattle.py_ast.specs.Files.{member_first, member_simple, file_simple, file_simple_first}
use Rattle.py_ast.specs.declared.tree.Expr.{Expr}
use Rattle.py_ast.specs.declared.statement.Stmt.{Stmt}
use Rattle.py_parser.specs.declared.lines.Simples.{Simples}
use Rattle.py_parser.specs.declared.lines.Simples.TheVariants.{OfBody, OfClass, OfFile}

-- the simple statements of a block, a class or a file
unfoldable pub simples : Phrase Token Expr → Simples → Phrase Token Stmt
simples e (OfBody returns loops) = simple e returns loops
simples e OfClass = member_simple e
simples e OfFile = file_simple e

-- the tokens that begin one
abbrev pub simples_first : Simples → List ℕ
simples_first (OfBody returns loops) = simple_first returns loops
simples_first OfClass = member_first
simples_first OfFile = file_simple_first

-- a line of them
abbrev pub simples_line : Phrase Token Expr → Simples → Phrase Token (List Stmt)
simples_line e s = line (simples_first s) (simples e s)

-- what is read behind the first statement of a line, up to its end: all statements of the line
abbrev pub behind : List ℕ → Phrase Token Stmt → Stmt → List Token → Outcome Token (List Stmt)
behind first g statement = (mapped (ended (series class (λ t. 80 ∷ []) (λ t. further first g) (λ t i. goes_past (λ s. tt {0}) i) (tt {0})) 5) (λ others. statement ∷ given others)).read
