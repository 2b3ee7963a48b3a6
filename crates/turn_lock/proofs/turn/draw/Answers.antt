use Rattle.std.proofs.Common.{rules}
use Rattle.turn_lock.proofs.Steps.{draws}
use Rattle.turn_lock.proofs.turn.draw.Goals as goal

pub fetch_add-requires : goal.fetch_add-requires
fetch_add-requires g c = (search rules, search rules, draws g.V.Told.history g.V.Told.by g.V.Told.loans g.V.Told.badge _ _ _ c.requires.rests.0 c.requires.rests.1)
