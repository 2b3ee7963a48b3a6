-- What a function that is passed in reads: literals in a bracket of literals, with room for so many nestings more.
use Rattle.std.specs.Prelude.{ℕ, ◌<◌, List, length, Result, IfOk}
use Rattle.std.specs.Borrow.{Bor}
use Rattle.phrases.specs.Reading.{Outcome, Read}
use Rattle.phrases.specs.Loops.{Gives}
use Rattle.phrases.specs.declared.fault.Stop.{Stop}
use Rattle.py_lexer.specs.declared.token.Token.{Token}
use Rattle.py_ast.specs.Literals.{nested_literal}
use Rattle.py_ast.specs.declared.tree.Expr.{Expr}

-- the answers are those of the reader, and where a literal comes, a token at least was taken
abbrev pub ReadsLiterals : (Bor (List Token) → Result (Expr × Bor (List Token)) (Stop Token) → Type 0) → ℕ → Type 0
ReadsLiterals answers room =
    (ts : Bor (List Token)) (r : Result (Expr × Bor (List Token)) (Stop Token)) → answers ts r
    → Gives (λ x. Read x.0 x.1.now) r ((nested_literal room (tt {0})).read ts.now) × IfOk r (λ x. length x.1.now < length ts.now)
