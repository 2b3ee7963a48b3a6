use Rattle.std.proofs.Common.{rules}
use Rattle.turn_lock.proofs.Steps.{passes}
use Rattle.turn_lock.proofs.turn.pass_turn.Goals as goal

pub fetch_add-served-requires : goal.fetch_add-served-requires
fetch_add-served-requires g c = (search rules, search rules, passes g.V.Told.history g.V.Told.by g.V.Told.loans g.V.Told.badge _ _ _ _ c.requires.home.0 c.requires.home.1)
