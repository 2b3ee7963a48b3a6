use Rattle.std.proofs.Common.{List, ap, subst}
use mathlib.Core.List.{IsPrefix}
use Rattle.publish.proofs.Prefixes.{prefix_self}
use Rattle.publish.proofs.readers.Reader.latest.Goals as goal

pub returns-in_default-clause-posts : goal.returns-in_default-clause-posts
returns-in_default-clause-posts g c =
    let log = c.self.inside.kept.sight.seen.log in
    let begins = λ (l : List g.row.R.Denot). IsPrefix l log in
    subst begins (ap (λ r. r.posts) c.self.view_is) (prefix_self log)
