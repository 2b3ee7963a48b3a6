use Rattle.std.proofs.Common.{rules, refl, ◌≡◌, [], ◌∷◌, Some, ap, ◌∙◌, subst}
use Rattle.std.specs.Prelude.{IsSome}
use Rattle.turn_lock.proofs.Steps.{takes_slot}
use Rattle.turn_lock.proofs.Lists.{alone, same_head}
use Rattle.turn_lock.proofs.turn.take.Goals as goal

pub load-requires : goal.load-requires
load-requires g c = (search rules, search rules, takes_slot g.V.Told.history g.V.Told.by g.V.Told.loans g.V.Told.badge _ _ _ _ c.requires.turn.0 c.requires.turn.1)

pub exchange-requires : goal.exchange-requires
exchange-requires g c = let t = c.load.ensures.2 _ c.requires.turn.0 in
    let has : c.load.new.seat.me.1 ≡ (0, Some t.0) ∷ [] = ap (λ m. m.1) t.1 ∙ ap (λ l. (0, Some t.0) ∷ l) c.requires.turn.2 in
    (search rules, (Some t.0, alone _ _ has))

pub unwrap-requires : goal.unwrap-requires
unwrap-requires g c = let t = c.load.ensures.2 _ c.requires.turn.0 in
    let has : c.load.new.seat.me.1 ≡ (0, Some t.0) ∷ [] = ap (λ m. m.1) t.1 ∙ ap (λ l. (0, Some t.0) ∷ l) c.requires.turn.2 in
    subst IsSome (same_head _ _ _ has c.exchange.ensures.2) refl
