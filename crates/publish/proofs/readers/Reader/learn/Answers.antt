use Rattle.std.proofs.Common.{List, ap, subst}
use mathlib.Core.List.{IsPrefix}
use Rattle.publish.proofs.Prefixes.{prefix_self}
use Rattle.publish.proofs.readers.Reader.learn.Goals as goal

pub returns-then-posts-clause-posts : goal.returns-then-posts-clause-posts
returns-then-posts-clause-posts g c =
    let log = c.note.inside.sight.seen.log in
    let begins = λ (l : List g.row.R.Denot). IsPrefix l log in (
      subst begins (ap (λ r. r.told_posts) c.self.view_is) c.tie.ensures.posts,
      subst begins (ap (λ n. n.posts) c.note.view_is) (prefix_self log),
    )

pub returns-else-posts-clause-posts : goal.returns-else-posts-clause-posts
returns-else-posts-clause-posts g c =
    let begins = λ (l : List g.row.R.Denot). IsPrefix l c.args.self.now.told_posts in
    let told : IsPrefix c.note.inside.sight.seen.log c.args.self.now.told_posts = subst (IsPrefix c.note.inside.sight.seen.log) (ap (λ r. r.told_posts) c.self.view_is) c.tie-else-posts.ensures.posts in (
      prefix_self c.args.self.now.told_posts,
      subst begins (ap (λ n. n.posts) c.note.view_is) told,
    )
