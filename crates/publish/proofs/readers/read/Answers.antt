use Rattle.std.proofs.Common.{ap, refl, sym, ◌∙◌}
use Rattle.publish.specs.Boards.{board_of}
use Rattle.publish.specs.declared.post.Post.{Post}
use Rattle.publish.proofs.Seats.{reads, same_book}
use Rattle.publish.proofs.readers.read.Goals as goal

pub enter_as-requires : goal.enter_as-requires
enter_as-requires g c x = reads (λ p. board_of p.sight.seen.book) _ _ x x refl

-- the reading is of the board that the seat knew
pub no_less-requires : goal.no_less-requires
no_less-requires g c =
    ap (λ s. s.book) c.look_at-found.ensures.seen
    ∙ (ap (λ (p : Post g.row.R.Denot g.row.R-Item.Denot). p.sight.seen.book) c.get.ensures ∙ sym (same_book _ _ (c.in-Ok.ensures.1.1 _ c.requires)))
