use Rattle.publish.specs.Boards.{board_of}
use Rattle.publish.specs.declared.post.Post.{Post}
use Rattle.publish.proofs.Seats.{admits, forks, merges}
use Rattle.publish.proofs.open.sit.Goals as goal

pub reader-requires : goal.reader-requires
reader-requires g c = admits {T = Post g.row.R.Denot g.row.R-Item.Denot} (λ p. board_of p.sight.seen.book)

pub tell-requires : goal.tell-requires
tell-requires g c = forks {T = Post g.row.R.Denot g.row.R-Item.Denot} (λ p. board_of p.sight.seen.book) _ _

pub learn-requires-clause-rule : goal.learn-requires-clause-rule
learn-requires-clause-rule g c = merges {T = Post g.row.R.Denot g.row.R-Item.Denot} (λ p. board_of p.sight.seen.book) _ _ _ _
