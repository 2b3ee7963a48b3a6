-- What a function that is passed in reads: what stands behind the ":" of blocks, with room for so many more; and the statements of
-- a block (Language Reference, chapter 8).
use Rattle.std.specs.Prelude.{ℕ, ◌<◌, List, ◌++◌, length, Result, IfOk}
use Rattle.std.specs.Borrow.{Bor}
use Rattle.phrases.specs.Phrases.{Phrase}
use Rattle.phrases.specs.Reading.{Read}
use Rattle.phrases.specs.Loops.{Gives}
use Rattle.phrases.specs.declared.fault.Stop.{Stop}
use Rattle.py_lexer.specs.declared.token.Token.{Token}
use Rattle.py_ast.specs.Grammar.{expr}
use Rattle.py_ast.specs.Literals.{literal}
use Rattle.py_ast.specs.Statements.{simple_first}
use Rattle.py_ast.specs.Files.{Suites, suites, compound_first, body_statement, function_first, member_first, member_statement}
use Rattle.py_ast.specs.declared.statement.Stmt.{Stmt}
use Rattle.py_ast.specs.declared.statement.Suite.{Suite}
use Rattle.py_ast.specs.declared.statement.Suite.TheVariants.{Body, Members}
use Rattle.py_parser.specs.declared.lines.Simples.{Simples}
use Rattle.py_parser.specs.declared.lines.Simples.TheVariants.{OfBody, OfClass}

-- the answers are those of the reader, and where statements come, a token at least was taken
abbrev pub ReadsSuites : (Suite → Bor (List Token) → Result (List Stmt × Bor (List Token)) (Stop Token) → Type 0) → ℕ → Type 0
ReadsSuites answers room =
    (s : Suite) (ts : Bor (List Token)) (r : Result (List Stmt × Bor (List Token)) (Stop Token)) → answers s ts r
    → Gives (λ x. Read x.0 x.1.now) r ((suites 100 room s).read ts.now) × IfOk r (λ x. length x.1.now < length ts.now)

-- a statement of a block, or a line of simple ones
unfoldable pub statement : ℕ → Suites → Suite → Phrase Token (List Stmt)
statement room inner (Body returns loops) = body_statement (expr 100) room inner returns loops
statement room inner Members = member_statement (expr 100) (literal 100) room inner

-- the tokens that begin one
abbrev pub statement_first : Suite → List ℕ
statement_first (Body returns loops) = compound_first ++ simple_first returns loops
statement_first Members = function_first ++ member_first

-- the simple ones
abbrev pub simples_of : Suite → Simples
simples_of (Body returns loops) = OfBody returns loops
simples_of Members = OfClass
