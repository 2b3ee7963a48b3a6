use Rattle.std.proofs.Common.{◌≡◌, Some, sym, ◌∙◌, subst}
use mathlib.Core.Option.{some-injective}
use Rattle.turn_lock.specs.Rounds.{IsLeftBy}
use Rattle.turn_lock.specs.Seats.{seat_view}
use Rattle.turn_lock.proofs.Ends.{ends}
use Rattle.turn_lock.proofs.TurnLock.finish.Goals as goal

pub unreachable-requires : goal.unreachable-requires
unreachable-requires g c =
    let r = c.requires.rests in
    let e = ends g.V.Told.history g.V.Told.by g.V.Told.loans g.V.Told.badge _ _ _ _ c.requires.first r.1 r.2 c.requires.all c.close_with-closed.ensures.values.2 in
    c.in_default.not-Some e.0 (some-injective _ _ (sym c.take-slot.ensures.value ∙ e.1))

pub returns : goal.returns
returns g c =
    let r = c.requires.rests in
    let e = ends g.V.Told.history g.V.Told.by g.V.Told.loans g.V.Told.badge _ _ _ _ c.requires.first r.1 r.2 c.requires.all c.close_with-closed.ensures.values.2 in
    let here : Some e.0 ≡ Some c.in-Some.value = some-injective _ _ (sym e.1 ∙ c.take-slot.ensures.value) ∙ c.in-Some.is in
    let same : e.0 ≡ c.in-Some.value = cc in
    record { told = subst (IsLeftBy g.V.Told.history g.V.Told.by (seat_view c.args.first)) same e.2 }
