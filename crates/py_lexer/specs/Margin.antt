-- Blank lines and indentation (Language Reference, 2.1.7 and 2.1.8).
use Rattle.std.specs.Prelude.{ℕ, Bool, false, ◌+◌, ◌*◌, ◌==◌, ◌&&◌, ◌||◌, nat_lt, List, [], ◌∷◌, length, drop, Option, Some, None, if◌then◌else◌}
use Rattle.std.specs.List.{prefix_len, take_while}
use Rattle.py_literals.specs.declared.place.Pos.{Pos}
use Rattle.py_lexer.specs.declared.token.Kind.TheVariants as kinds
use Rattle.py_lexer.specs.declared.token.Value.TheVariants as values
use Rattle.py_lexer.specs.declared.token.LexKind.TheVariants.{BadChar, MixedIndent, BadDedent}
use Rattle.py_lexer.specs.declared.state.Mode.TheVariants as modes
use Rattle.py_lexer.specs.declared.state.White.{White}
use Rattle.py_lexer.specs.declared.state.White.TheVariants.{Spaces, Tabs}
use Rattle.py_lexer.specs.declared.state.State.{State}
use Rattle.py_lexer.specs.Chars.{is_white, is_line_end, is_in_line}
use Rattle.py_lexer.specs.Stack.{top, has_column}
use Rattle.py_lexer.specs.Front.{Front, Found, Passed, Bad}
use Rattle.py_lexer.specs.Inside.{inside}

-- how much white space, and how many joins, stand at the front
abbrev pub gap_len : List ℕ → ℕ
gap_len [] = 0
gap_len (c ∷ []) = if is_white c then 1 else 0
gap_len (c ∷ d ∷ ds) =
    if is_white c then 1 + gap_len (d ∷ ds) else (
    if (c == 92) && is_line_end d then 2 + gap_len ds else 0)

-- form feeds at the start of a line count nothing
abbrev pub is_form_feed : ℕ → Bool
is_form_feed c = c == 12

abbrev pub feeds_len : List ℕ → ℕ
feeds_len cs = prefix_len is_form_feed cs

-- the white space that indents a logical line: that of its first physical line, up to a backslash if there is one
abbrev pub indent_of : List ℕ → List ℕ
indent_of cs = take_while is_white (drop (feeds_len cs) cs)

-- the kind of a text's leading white space: that seen before, or else that of the first character
abbrev pub white_of : Option White → List ℕ → Option White
white_of (Some white) indent = Some white
white_of None [] = None
white_of None (c ∷ cs) = if c == 9 then Some Tabs else Some Spaces

abbrev pub is_of : Option White → ℕ → Bool
is_of None c = false
is_of (Some Spaces) c = c == 32
is_of (Some Tabs) c = c == 9

-- the column of n characters: a tab counts eight
abbrev pub column_of : Option White → ℕ → ℕ
column_of None n = n
column_of (Some Spaces) n = n
column_of (Some Tabs) n = 8 * n

-- n characters of white space and joins stand before the first token of a line, whose indentation has this kind
abbrev pub indented : State → ℕ → ℕ → List ℕ → Option White → Front
indented s n feeds indent white =
    if nat_lt (prefix_len (is_of white) indent) (length indent) then Bad MixedIndent (feeds + prefix_len (is_of white) indent)
    else Passed n (record s { mode = modes.Indented (column_of white (length indent)); white = white })

-- n characters of white space and joins stand before rest
abbrev pub margin_by : State → ℕ → List ℕ → List ℕ → Front
margin_by s n cs [] = Passed n s
margin_by s n cs (c ∷ rest) =
    if is_line_end c then Passed (n + 1) s else (
    if c == 35 then Passed (n + (1 + prefix_len is_in_line rest)) s
    else indented s n (feeds_len cs) (indent_of cs) (white_of s.white (indent_of cs)))

-- where a logical line begins
abbrev pub margin : State → List ℕ → Front
margin s cs = margin_by s (gap_len cs) cs (drop (gap_len cs) cs)

-- a column is that of an open block, or 0
abbrev pub is_open : List ℕ → ℕ → Bool
is_open blocks column = (column == 0) || has_column blocks column

-- a line's first token stands in a smaller column than its block's and in that of none round it:
-- of two faults at one place, that of the character is told
abbrev pub bad_dedent : Front → Front
bad_dedent (Bad BadChar n) = Bad BadChar n
bad_dedent _ = Bad BadDedent 0

-- where the first token of a line stands, in this column
abbrev pub indentation : Pos → State → ℕ → ℕ → List ℕ → Front
indentation at s column c cs =
    if column == top s.blocks then Passed 0 (record s { mode = modes.Inside }) else (
    if nat_lt (top s.blocks) column then Found 0 kinds.Indent values.Nothing (record s { mode = modes.Inside; blocks = column ∷ s.blocks }) else (
    if is_open s.blocks column then Found 0 kinds.Dedent values.Nothing (record s { blocks = drop 1 s.blocks })
    else bad_dedent (inside at s c cs)))
