use Rattle.std.proofs.Common.{ap, sym, ◌∙◌}
use Rattle.publish.specs.Boards.{board_of}
use Rattle.publish.specs.declared.post.Post.{Post}
use Rattle.publish.proofs.Seats.{reads}
use Rattle.publish.proofs.posters.show.Goals as goal

pub publish_as-next-requires : goal.publish_as-next-requires
publish_as-next-requires g c next is =
    let p = c.loop.invariant.0 ∙ c.requires.pending in
    let e = rw p at is in
    reads {T = Post g.row.R.Denot g.row.R-Item.Denot} (λ q. board_of q.sight.seen.book) _ _ c.loop.writer.desk.shown.value next
    (ap board_of (ap (λ t. t.1.book) e ∙ (c.requires.board ∙ ap (λ (z : Post g.row.R.Denot g.row.R-Item.Denot). z.sight.seen.book) (sym c.loop.invariant.1))))
