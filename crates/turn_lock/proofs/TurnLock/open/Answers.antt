use Rattle.std.proofs.Common.{◌≡◌, [], ◌∷◌, ◌++◌, ap, sym, ◌∙◌, subst}
use Rattle.turn_lock.specs.Locks.{id_of}
use Rattle.turn_lock.specs.Rounds.{AreMade}
use Rattle.turn_lock.proofs.Rounds.{one_made, made_all, made_new}
use Rattle.turn_lock.proofs.TurnLock.open.Goals as goal

pub seat_others-requires-clause-first : goal.seat_others-requires-clause-first
seat_others-requires-clause-first g c =
    let first = c.in-Ok-open_one.first in
    let one = c.in-Ok-open_one.ensures.ok in
    let items : c.push_reserved.new.self.items ≡ first ∷ [] = c.push_reserved.ensures.items ∙ ap (λ l. l ++ first ∷ []) c.in-Ok.ensures.items in
    (g.V.Told.badge c.args.value, subst (AreMade (id_of c.in-Ok-open_one.lock) (g.V.Told.badge c.args.value) 1) (sym items) (one_made _ _ first one.0 one.1))

pub returns-in-Ok-open_one-clause-count : goal.returns-in-Ok-open_one-clause-count
returns-in-Ok-open_one-clause-count g c =
    let first = c.in-Ok-open_one.first in
    let one = c.in-Ok-open_one.ensures.ok in
    let items : c.push_reserved.new.self.items ≡ first ∷ [] = c.push_reserved.ensures.items ∙ ap (λ l. l ++ first ∷ []) c.in-Ok.ensures.items in
    (c.seat_others.ensures.made (g.V.Told.badge c.args.value) (subst (AreMade (id_of c.in-Ok-open_one.lock) (g.V.Told.badge c.args.value) 1) (sym items) (one_made _ _ first one.0 one.1))).count

pub returns-in-Ok-open_one-clause-all : goal.returns-in-Ok-open_one-clause-all
returns-in-Ok-open_one-clause-all g c =
    let first = c.in-Ok-open_one.first in
    let one = c.in-Ok-open_one.ensures.ok in
    let items : c.push_reserved.new.self.items ≡ first ∷ [] = c.push_reserved.ensures.items ∙ ap (λ l. l ++ first ∷ []) c.in-Ok.ensures.items in
    made_all _ _ _ _ c.requires.some (c.seat_others.ensures.made (g.V.Told.badge c.args.value) (subst (AreMade (id_of c.in-Ok-open_one.lock) (g.V.Told.badge c.args.value) 1) (sym items) (one_made _ _ first one.0 one.1)))

pub returns-in-Ok-open_one-clause-new : goal.returns-in-Ok-open_one-clause-new
returns-in-Ok-open_one-clause-new g c =
    let first = c.in-Ok-open_one.first in
    let one = c.in-Ok-open_one.ensures.ok in
    let items : c.push_reserved.new.self.items ≡ first ∷ [] = c.push_reserved.ensures.items ∙ ap (λ l. l ++ first ∷ []) c.in-Ok.ensures.items in
    made_new _ _ _ _ (c.seat_others.ensures.made (g.V.Told.badge c.args.value) (subst (AreMade (id_of c.in-Ok-open_one.lock) (g.V.Told.badge c.args.value) 1) (sym items) (one_made _ _ first one.0 one.1)))
