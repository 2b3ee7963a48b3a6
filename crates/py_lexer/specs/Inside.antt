-- What stands at the front of a text inside a logical line, by its first character.
use Rattle.std.specs.Prelude.{ℕ, Bool, ◌+◌, ◌==◌, ◌||◌, List, [], ◌∷◌, drop, Option, Some, None, if◌then◌else◌}
use Rattle.std.specs.List.{prefix_len}
use Rattle.py_literals.specs.declared.place.Pos.{Pos}
use Rattle.py_lexer.specs.declared.chars.Class.{Class}
use Rattle.py_lexer.specs.declared.chars.Class.TheVariants.{White, LineEnd, Comment, Backslash, Quote, Digit, Dot, Letter, Sign}
use Rattle.py_lexer.specs.declared.operators.Operator.{Operator}
use Rattle.py_lexer.specs.declared.token.Kind.TheVariants as kinds
use Rattle.py_lexer.specs.declared.token.Value.TheVariants as values
use Rattle.py_lexer.specs.declared.token.LexKind.TheVariants.{BadChar}
use Rattle.py_lexer.specs.declared.state.Mode.{Mode}
use Rattle.py_lexer.specs.declared.state.Mode.TheVariants as modes
use Rattle.py_lexer.specs.declared.state.State.{State}
use Rattle.py_lexer.specs.Chars.{class_of, is_white, is_line_end, is_in_line, is_digit}
use Rattle.py_lexer.specs.Operators.{longest_operator}
use Rattle.py_lexer.specs.Front.{Front, Found, Passed, Bad, front_of_lexeme}
use Rattle.py_lexer.specs.Words.{next_is, number}
use Rattle.py_lexer.specs.Strings.{string, string_or_word}

-- a line end ends the logical line, unless a bracket is open (2.1.1, 2.1.6)
abbrev pub line_end : State → List Pos → Front
line_end s [] = Found 1 kinds.Newline values.Nothing (record s { mode = modes.LineStart })
line_end s (at ∷ outer) = Passed 1 s

-- a backslash and a line end join two lines (2.1.5)
abbrev pub join : State → List ℕ → Front
join s cs = if next_is is_line_end cs then Passed 2 s else Bad BadChar 0

-- brackets: in a field none counts, since behind it those are open that were before it
abbrev pub is_opening : ℕ → Bool
is_opening c = (c == 40) || ((c == 91) || (c == 123))

abbrev pub is_closing : ℕ → Bool
is_closing c = (c == 41) || ((c == 93) || (c == 125))

abbrev pub opened : Mode → Pos → List Pos → List Pos
opened (modes.Field kind beyond) at brackets = brackets
opened _ at brackets = at ∷ brackets

-- a closing one closes the innermost open one, of whatever kind
abbrev pub closed : Mode → List Pos → List Pos
closed (modes.Field kind beyond) brackets = brackets
closed _ brackets = drop 1 brackets

abbrev pub bracketed : Pos → State → ℕ → State
bracketed at s c =
    if is_opening c then record s { brackets = opened s.mode at s.brackets } else (
    if is_closing c then record s { brackets = closed s.mode s.brackets } else s)

-- an operator or delimiter that begins with c (2.5, 2.6)
abbrev pub operator_by : Pos → State → ℕ → Option Operator → Front
operator_by at s c None = Bad BadChar 0
operator_by at s c (Some o) = Found o.len o.kind values.Nothing (bracketed at s c)

abbrev pub operator : Pos → State → ℕ → List ℕ → Front
operator at s c cs = operator_by at s c (longest_operator (c ∷ cs))

abbrev pub number_or_operator : Pos → State → ℕ → List ℕ → Front
number_or_operator at s c cs = if next_is is_digit cs then front_of_lexeme (number (c ∷ cs)) s else operator at s c cs

abbrev pub inside_by : Class → Pos → State → ℕ → List ℕ → Front
inside_by White at s c cs = Passed (1 + prefix_len is_white cs) s
inside_by LineEnd at s c cs = line_end s s.brackets
inside_by Comment at s c cs = Passed (1 + prefix_len is_in_line cs) s
inside_by Backslash at s c cs = join s cs
inside_by Quote at s c cs = string s (c ∷ cs)
inside_by Digit at s c cs = front_of_lexeme (number (c ∷ cs)) s
inside_by Dot at s c cs = number_or_operator at s c cs
inside_by Letter at s c cs = string_or_word s (c ∷ cs)
inside_by Sign at s c cs = operator at s c cs

abbrev pub inside : Pos → State → ℕ → List ℕ → Front
inside at s c cs = inside_by (class_of c) at s c cs
