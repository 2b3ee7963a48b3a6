-- The book of a board: its log is what was posted, and its first word the number of posts.
use Rattle.std.specs.Prelude.{ℕ, ◌≡◌, ◌==◌, true, List, [], ◌∷◌, ◌++◌, length, MatchBool}
use mathlib.Core.List.{IsPrefix}
use Rattle.logbook.specs.Pages.{Cell, Step, View, Book, Named}
use Rattle.publish.specs.Posts.{last_list, IsChain}

-- the word that counts the posts
abbrev pub head_of : Book → Named
head_of b = record { tracked = true; key = 0; book = b }

module _ {R I : Type 0} (list : R → List I) where
  -- the value goes on where the last of these ended
  abbrev pub MayFollow : List R → R → Type 0
  MayFollow posts x = IsPrefix (last_list list posts) (list x)

  -- what holds of a book between any two steps
  pub record IsKept (cells : List Cell) (log : List R) : Type 0 where
    pub words : cells ≡ (length log, true) ∷ (0, true) ∷ []
    pub chain : IsChain list log

-- the value was added to all that had been seen; or there are other posts, so many as were found
abbrev pub Adds : {R : Type 0} → Step R → View R ℕ → ℕ → View R ℕ → Type 0
Adds s v found w = MatchBool (found == s.old) (w.0 ≡ v.0 ++ s.ask ∷ []) (length w.0 ≡ found)
