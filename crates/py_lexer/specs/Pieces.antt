-- What stands at the front of a text, by what is open there.
use Rattle.std.specs.Prelude.{ℕ, List, [], ◌∷◌}
use Rattle.py_literals.specs.declared.place.Pos.{Pos}
use Rattle.py_lexer.specs.declared.token.Kind.TheVariants as kinds
use Rattle.py_lexer.specs.declared.token.Value.TheVariants as values
use Rattle.py_lexer.specs.declared.state.Mode.{Mode}
use Rattle.py_lexer.specs.declared.state.Mode.TheVariants as modes
use Rattle.py_lexer.specs.declared.state.State.{State}
use Rattle.py_lexer.specs.Front.{Front, Found, Unclosed, Over}
use Rattle.py_lexer.specs.Inside.{inside}
use Rattle.py_lexer.specs.Margin.{margin, indentation}
use Rattle.py_lexer.specs.Formatted.{literal, field}

-- at the end of the text each open block ends (2.1.8)
abbrev pub last_block : State → List ℕ → Front
last_block s [] = Over
last_block s (column ∷ outer) = Found 0 kinds.Dedent values.Nothing (record s { blocks = outer })

-- before them the last line ends, where it has no line end
abbrev pub last_line : State → Mode → Front
last_line s modes.LineStart = last_block s s.blocks
last_line s _ = Found 0 kinds.Newline values.Nothing (record s { mode = modes.LineStart })

-- and every bracket has to be closed
abbrev pub finish : State → List Pos → Front
finish s [] = last_line s s.mode
finish s (at ∷ outer) = Unclosed at

abbrev pub piece_by : Mode → Pos → State → ℕ → List ℕ → Front
piece_by modes.LineStart at s c cs = margin s (c ∷ cs)
piece_by (modes.Indented column) at s c cs = indentation at s column c cs
piece_by modes.Inside at s c cs = inside at s c cs
piece_by (modes.Literal kind beyond) at s c cs = literal s kind beyond (c ∷ cs)
piece_by (modes.Field kind beyond) at s c cs = field at s kind beyond c cs

abbrev pub piece : Pos → State → List ℕ → Front
piece at s [] = finish s s.brackets
piece at s (c ∷ cs) = piece_by s.mode at s c cs
