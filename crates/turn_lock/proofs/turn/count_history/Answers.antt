use Rattle.std.proofs.Common.{rules}
use Rattle.turn_lock.proofs.Steps.{counts}
use Rattle.turn_lock.proofs.turn.count_history.Goals as goal

pub store-requires : goal.store-requires
store-requires g c = let o = c.requires.out in (search rules, search rules, counts g.V.Told.history g.V.Told.by g.V.Told.loans g.V.Told.badge _ _ _ _ _ _ _ o.0 o.1 o.2 c.requires.count c.requires.adds)
