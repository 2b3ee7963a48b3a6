-- Places in a text: lines and columns, both from 1 on.
use Rattle.std.specs.Prelude.{◌+◌, ◌==◌, ℕ, Bool, List, [], ◌∷◌, length, if◌then◌else◌}
use Rattle.std.specs.List.{list_any}
use Rattle.py_literals.specs.declared.place.Pos.{Pos}

-- the place behind one character
abbrev pub past : Pos → ℕ → Pos
past at c = if c == 10 then record { line = at.line + 1; col = 1 } else record { line = at.line; col = at.col + 1 }

-- the place behind these characters, the first of which stands at `at`
abbrev pub after : Pos → List ℕ → Pos
after at [] = at
after at (c ∷ cs) = after (past at c) cs

-- how many line feeds stand among these characters
abbrev pub line_feeds : List ℕ → ℕ
line_feeds [] = 0
line_feeds (c ∷ cs) = (if c == 10 then 1 else 0) + line_feeds cs

abbrev pub is_line_feed : ℕ → Bool
is_line_feed c = c == 10

-- how many characters stand behind the last line feed, or all where there is none
abbrev pub last_len : List ℕ → ℕ
last_len [] = 0
last_len (c ∷ cs) = if list_any is_line_feed (c ∷ cs) then last_len cs else 1 + length cs
