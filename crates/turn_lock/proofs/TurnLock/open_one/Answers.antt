use Rattle.std.proofs.Common.{◌≡◌, [], ◌∷◌, ◌++◌, Some, ap, ◌∙◌}
use Rattle.turn_lock.proofs.Ends.{starts}
use Rattle.turn_lock.proofs.TurnLock.open_one.Goals as goal

pub new-requires : goal.new-requires
new-requires g c =
    let items : c.push_reserved.new.self.items ≡ Some c.args.value ∷ [] = c.push_reserved.ensures.items ∙ ap (λ l. l ++ Some c.args.value ∷ []) c.in-Ok.ensures.items in
    rw (items, c.of-about.ensures) (starts g.V.Told.history g.V.Told.by g.V.Told.loans g.V.Told.badge c.args.value c.requires.empty c.requires.free)
