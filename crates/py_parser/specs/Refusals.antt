-- The one fault of a text: that of its tokens, else that of the grammar, else that of its scopes.
use Rattle.std.specs.Prelude.{◌≡◌, ◌⊎◌, List, chars, Option, Some}
use Rattle.rv_names.specs.Keys.{Bytes}
use Rattle.py_literals.specs.declared.place.Pos.{Pos}
use Rattle.py_lexer.specs.declared.form.Form.{Form}
use Rattle.py_lexer.specs.declared.token.Token.{Token}
use Rattle.py_lexer.specs.Runs.{HasTokens, HasFault}
use Rattle.py_ast.specs.Parsed.{IsSpelled}
use Rattle.py_ast.specs.ScopeFaults.{scope_fault}
use Rattle.py_ast.specs.declared.statement.Module.{Module}
use Rattle.py_ast.specs.declared.binding.ScopeFault.{ScopeFault}
use Rattle.py_ast.specs.declared.binding.ScopeFault.TheVariants as faults
use Rattle.py_parser.specs.declared.parsing.FileError.{FileError}
use Rattle.py_parser.specs.declared.parsing.FileError.TheVariants as answers
use Rattle.py_parser.specs.declared.reading.GrammarError.{GrammarError}
use Rattle.py_parser.specs.declared.reading.GrammarError.TheVariants as errors
use Rattle.py_parser.specs.Faults.{Refused}

-- the text has tokens, and they spell no module for this reason
abbrev pub IsUnspelled : Bytes → GrammarError → Type 0
IsUnspelled text error = (tokens : List Token) × HasTokens (chars text) tokens × Refused tokens error

-- the text spells a module, whose scopes have this fault
abbrev pub HasScopeFault : Bytes → ScopeFault → Type 0
HasScopeFault text fault = (m : Module) × IsSpelled text m × (scope_fault m ≡ Some fault)

-- the answer in place of the text's module
abbrev pub IsRefused : Bytes → FileError → Type 0
IsRefused text (answers.Lex kind place) = HasFault (chars text) kind place
IsRefused text (answers.Syntax place) = IsUnspelled text (errors.Syntax place)
IsRefused text (answers.Unsupported form place) = IsUnspelled text (errors.Unsupported form place) ⊎ HasScopeFault text (faults.Unsupported form place)
IsRefused text (answers.TooDeep place) = IsUnspelled text (errors.TooDeep place)
IsRefused text (answers.Twice name place) = HasScopeFault text (faults.Twice name place)
IsRefused text answers.Memory = Unit {0}

-- such an answer where memory doesn't run out
abbrev pub IsFaulty : Bytes → FileError → Type 0
IsFaulty text fault = IsRefused text fault × (fault ≡ answers.Memory → ⊥)
