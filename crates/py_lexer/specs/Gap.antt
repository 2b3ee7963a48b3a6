-- What stands between tokens and is passed as soon as it is told.
use Rattle.std.specs.Prelude.{◌≡◌, ◌≤◌, ◌⊎◌, ℕ, Bool, true, false, ◌||◌, ◌==◌, List, [], ◌∷◌, length, take, drop, Option, Some, None}
use Rattle.std.specs.List.{list_any}
use Rattle.py_literals.specs.declared.place.Pos.{Pos}
use Rattle.py_lexer.specs.declared.state.White.{White}
use Rattle.py_lexer.specs.declared.state.White.TheVariants.{Spaces, Tabs}
use Rattle.py_lexer.specs.declared.state.State.{State}
use Rattle.py_lexer.specs.Chars.{is_white, is_line_end}
use Rattle.py_lexer.specs.Front.{Passed}
use Rattle.py_lexer.specs.Pieces.{piece}

abbrev pub is_space : ℕ → Bool
is_space c = c == 32

-- no token begins with it
abbrev pub is_gap : ℕ → Bool
is_gap c = is_white c || (is_line_end c || ((c == 35) || (c == 92)))

-- no token is next
abbrev pub gap_next : List ℕ → Bool
gap_next [] = true
gap_next (c ∷ cs) = is_gap c

-- n spaces may begin a line, and the kind of leading white space stays as it is
abbrev pub white_fits : Option White → ℕ → Bool
white_fits None n = n == 0
white_fits (Some Spaces) n = true
white_fits (Some Tabs) n = n == 0

-- rest stands behind the first n characters of cs, which give no token, and t is open there
pub record IsBehindGap (s : State) (cs : List ℕ) (t : State) (rest : List ℕ) : Type 0 where
  pub n : ℕ
  pub parts : rest ≡ drop n cs
  pub within : n ≤ length cs
  pub in_line : list_any is_line_end (take n cs) ≡ false
  -- what is open behind them, which may have to be entered yet
  pub between : State
  pub passed : (at : Pos) → Passed n between ≡ piece at s cs
  pub entered : (t ≡ between) ⊎ ((at : Pos) → Passed 0 t ≡ piece at between (drop n cs))
