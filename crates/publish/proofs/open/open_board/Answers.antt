use Rattle.std.proofs.Common.{List, refl, subst, sym}
use mathlib.Core.List.{IsPrefix}
use Rattle.publish.specs.Posts.{last_list}
use Rattle.publish.proofs.open.open_board.Goals as goal

-- the first value follows nothing
pub add-requires-clause-follows : goal.add-requires-clause-follows
add-requires-clause-follows g c =
    let first = g.R.Numbered.list c.deref.result.now in
    let follows = λ (posts : List g.row.R.Denot). IsPrefix (last_list g.R.Numbered.list posts) first in
    subst follows (sym c.open-head.ensures.empty) (first, refl)
