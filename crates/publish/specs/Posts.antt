-- Values in the order in which they were posted.
use Rattle.std.specs.Prelude.{List, [], ◌∷◌, Option, Some, None}
use mathlib.Core.List.{IsPrefix}
use Rattle.logbook.specs.Pages.{Book}
use Rattle.publish.specs.declared.boards.Board.{Board}
use Rattle.publish.specs.Boards.{board_of}

-- what is known of a board at some moment: the values that had been posted, and the list of the last of them
pub record Posts (R I : Type 0) : Type 0 where
  pub board : Board
  pub posts : List R
  pub list : List I

-- the value that was posted last
abbrev pub last_of : {R : Type 0} → List R → Option R
last_of [] = None
last_of (x ∷ []) = Some x
last_of (x ∷ y ∷ ys) = last_of (y ∷ ys)

module _ {R I : Type 0} (list : R → List I) where
  abbrev pub list_of : Option R → List I
  list_of None = []
  list_of (Some x) = list x

  -- the list of the value that was posted last
  abbrev pub last_list : List R → List I
  last_list posts = list_of (last_of posts)

  -- what is known where the book of a board was seen with these posts
  abbrev pub posts_of : Book → List R → Posts R I
  posts_of b posts = record { board = board_of b; posts = posts; list = last_list posts }

  -- each value's list begins with that of the value before
  abbrev pub IsChain : List R → Type 0
  IsChain [] = Unit {0}
  IsChain (x ∷ []) = Unit {0}
  IsChain (x ∷ y ∷ ys) = IsPrefix (list x) (list y) × IsChain (y ∷ ys)
