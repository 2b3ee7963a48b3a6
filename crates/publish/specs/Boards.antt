-- Which board it is, and who knows it.
use Rattle.std.specs.Prelude.{ℕ, ◌≡◌, List, Option, Some}
use mathlib.Core.Option.{some}
use lib.ListN.{get_elem?}
use Rattle.logbook.specs.Pages.{Book}
use Rattle.publish.specs.declared.boards.Board.{Board}

-- a board is named by the book of its posts
abbrev pub board_of : Book → Board
board_of b = record { number = b.number; log_name = b.log_name; cells_name = b.cells_name }

-- a seat that knows its board knows that it is this one
abbrev pub IsOf : Board → Option Board → Type 0
IsOf b v = (c : Board) → v ≡ Some c → c ≡ b

abbrev pub AllAreOf : Board → List (Option Board) → Type 0
AllAreOf b views = (j : ℕ) (v : Option Board) → get_elem? views j ≡ some v → IsOf b v

-- a reading on board b, by which a seat goes from v to w: afterwards the seat knows the board
abbrev pub Finds : Board → Option Board → Option Board → Type 0
Finds b v w = (w ≡ Some b) × IsOf b v
