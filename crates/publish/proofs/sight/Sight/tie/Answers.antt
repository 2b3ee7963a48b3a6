use Rattle.std.proofs.Common.{List, ap, subst}
use mathlib.Core.List.{IsPrefix}
use Rattle.publish.proofs.Prefixes.{prefix_shorter}
use Rattle.publish.proofs.Chains.{front_list, chain_front}
use Rattle.publish.proofs.sight.Sight.tie.Goals as goal

pub returns : goal.returns
returns g c =
    let both = c.learn.new.self.log in
    let mine = c.args.self.now.seen.log in
    let theirs = c.args.earlier.now.seen.log in
    let l = c.learn.ensures in
    let this : IsPrefix mine both = subst (λ (x : List g.row.R.Denot). IsPrefix x both) (ap (λ s. s.log) c.again-both.ensures) l.2 in
    let begins : IsPrefix theirs mine = prefix_shorter theirs mine both l.3 this c.requires.order in
    record { posts = begins; lists = front_list g.R.Numbered.list theirs mine begins (chain_front g.R.Numbered.list mine both this l.4.1.chain) }
