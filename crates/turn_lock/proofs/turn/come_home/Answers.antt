use Rattle.std.proofs.Common.{rules, refl}
use Rattle.turn_lock.proofs.Steps.{homes}
use Rattle.turn_lock.proofs.turn.come_home.Goals as goal

pub load-requires : goal.load-requires
load-requires g c = let o = c.requires.counted in (search rules, search rules, homes g.V.Told.history g.V.Told.by g.V.Told.loans g.V.Told.badge _ _ _ _ _ _ o.0 o.1 o.2 refl c.requires.badge c.requires.loans)
