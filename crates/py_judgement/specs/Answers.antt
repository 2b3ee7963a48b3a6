-- What is answered of a file where memory doesn't run out.
use Rattle.std.specs.Prelude.{◌≡◌, List, Result, Err}
use Rattle.rv_names.specs.Keys.{Bytes}
use Rattle.py_lexer.specs.declared.token.Token.{Token}
use Rattle.py_ast.specs.Parsed.{IsSpelled}
use Rattle.py_ast.specs.ScopeFaults.{HasNoScopeFault}
use Rattle.py_ast.specs.declared.statement.Module.{Module}
use Rattle.py_parser.specs.declared.parsing.FileError.{FileError}
use Rattle.py_parser.specs.declared.reading.GrammarError.{GrammarError}
use Rattle.py_parser.specs.declared.reading.GrammarError.TheVariants as errors
use Rattle.py_parser.specs.Faults.{Judged}
use Rattle.py_parser.specs.Refusals.{IsFaulty}

-- an answer of tokens
abbrev pub Answers : List Token → Result Module GrammarError → Type 0
Answers ts r = Judged ts r × (r ≡ Err errors.Memory → ⊥)

-- a text has one module whose scopes have no fault, or one fault, and never both
pub record HasOneReading (text : Bytes) : Type 0 where
  pub one_module : (m n : Module) → IsSpelled text m → IsSpelled text n → m ≡ n
  pub not_both : (m : Module) (fault : FileError) → IsSpelled text m → HasNoScopeFault m → IsFaulty text fault → ⊥
  pub one_fault : (f g : FileError) → IsFaulty text f → IsFaulty text g → f ≡ g
