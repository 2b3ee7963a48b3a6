use Rattle.std.proofs.Common.{refl}
use Rattle.path_trees.specs.Trees.{Below}
use Rattle.path_trees.proofs.Finite.{below_trans}
use Rattle.path_trees.proofs.TreeLaws.{join_below, join_first, join_second}
use Rattle.path_trees.proofs.Rooms.{room-falls}
use Rattle.path_trees.proofs.trees.Tree.join_in.Goals as goal

pub returns-then-le-clause-exact : goal.returns-then-le-clause-exact
returns-then-le-clause-exact c = join_below _ _ (c.if-le.ensures.0 refl)

pub returns-clause-room : goal.returns-clause-room
returns-clause-room c h =
    let no : Below c.args.other.now c.args.self.now → ⊥ = λ b. let e = c.if-le.ensures.1 b in cc in
    room-falls c.args.self.now c.in_ok-joined.joined c.know.ensures (rw c.in_ok-joined.ensures (join_first _ _))
    (λ b. no (below_trans (join_second c.args.self.now c.args.other.now) (rw c.in_ok-joined.ensures at b)))
