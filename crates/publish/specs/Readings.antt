-- What a reader keeps, and what it was told.
use Rattle.std.specs.Prelude.{◌≡◌, List, Some}
use mathlib.Core.List.{IsPrefix}
use Rattle.publish.specs.declared.boards.Board.{Board}
use Rattle.publish.specs.Posts.{Posts, last_of}

-- a reader's board, the value that it keeps with all that was posted up to it, and what it was told:
-- the posts of the latest note, and the list of the last of them
pub record Reading (R I : Type 0) : Type 0 where
  pub board : Board
  pub posts : List R
  pub kept : R
  pub told_posts : List R
  pub told : List I

-- a reader that keeps the value x, and was told these posts
abbrev pub reading : {R I : Type 0} → Posts R I → R → Reading R I
reading p x = record { board = p.board; posts = p.posts; kept = x; told_posts = p.posts; told = p.list }

-- x is the last of these posts. They go on after those of the kept value and after those that were told, and the list of x
-- begins with the kept value's and with the one that was told
pub record IsLater {R I : Type 0} (list : R → List I) (r : Reading R I) (posts : List R) (x : R) : Type 0 where
  pub posted : last_of posts ≡ Some x
  pub after_kept : IsPrefix r.posts posts
  pub after_told : IsPrefix r.told_posts posts
  pub extends_kept : IsPrefix (list r.kept) (list x)
  pub extends_told : IsPrefix r.told (list x)
