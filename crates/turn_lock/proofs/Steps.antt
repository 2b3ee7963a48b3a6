-- Each kind of step in a turn keeps the rule of the lock: one lemma a kind.
use Rattle.std.proofs.Common.{◌≡◌, ℕ, ◌+◌, ◌%◌, ◌^◌, ◌<◌, true, false, true≢false, List, [], ◌∷◌, length, get_or, set, Option, Some, sym, refl, ap, ◌∙◌, subst, arith, length-set, get_or-set_same, get_or-set_other}
use mathlib.Core.Logic.{dite}
use mathlib.Core.Option.{none, some, some-ne-none, some-injective}
use mathlib.Core.Option as maybe
use native.Mathlib.Decide.{ℕ_discrete}
use lib.ListN.{get_elem?}
use Rattle.atomic_table.specs.Table.{Me, step, keeps, takes, gives, put_back, rest, Allows}
use Rattle.atomic_table.proofs.Lists.{set_here, one_turn}
use Rattle.turn_lock.specs.declared.View.{View}
use Rattle.turn_lock.specs.declared.Stage.TheVariants.{Idle, Waits, Turn, Holds, Counted, Home}
use Rattle.turn_lock.specs.Turn.{StartsWith, ticket_in, one_if_in_line, is_out, ticket, in_line, Knows, own_of, Turned, Agrees, SameBut, Adds, loan_at, ended_by, drew, looked, took, counted, came_home, passed, glanced}
use Rattle.turn_lock.proofs.Lists.{at_one, at_inside, seats_stay, same_key, starts_more, starts_whole}
use Rattle.turn_lock.proofs.Keeps.{some_is, in_range, knows_taken, knows_apart, knows_passed, own_same, agrees_set, value_is, short_line, moves, still_home, still_out, fits_more, loaded, unmoved, served_once, other_number}

module _ {V E L B : Type 0} (history : V → List E) (by : E → ℕ) (loans : V → List (Option L)) (badge : V → B) where
  pub draws : (slots id : ℕ) (me : Me (Option V) (View E L B)) → me.0.stage ≡ Idle → me.0.lives ≡ true → Allows (Turned history by loans badge) slots id me 0 (λ n. (n + 1) % 2 ^ 64) (drew history by loans badge (step slots 0 1 0 none) me)
  draws slots id me idle lives s r deep at small =
      let v : View E L B = me.0 in
      let w : View E L B = record v { stage = Waits r.drawn; holds = v.holds + 1 } in
      let x : ℕ = (get_or s.words 0 0 + 1) % 2 ^ 64 in
      let f = r.each_seat id v at in
      let q = r.queued in
      let none_yet : in_line v ≡ 0 = ap one_if_in_line idle in (
        w,
        keeps,
        tt,
        moves history by loans badge s r id v w (set s.words 0 x) s.homes r.log (r.drawn + 1) r.served r.holder r.home at (length-set s.words 0 x ∙ r.wide) r.deep
            (let a = r.wide in let b = r.ticket_is in get_or-set_same s.words 0 x 0 (omega arith) ∙ (omega arith))
            (get_or-set_other s.words 0 1 x 0 (λ e. omega arith) ∙ r.serving_is)
            (get_or-set_other s.words 0 2 x 0 (λ e. omega arith) ∙ r.count_is)
            (omega arith)
            refl
            refl
            refl
            record { seen = f.seen; own = f.own; numbered = f.numbered; spent = λ e. absurd (true≢false (sym lives ∙ e)); stage = (omega arith, omega arith); badge = f.badge; first = f.first }
            (λ j u other there. fits_more history by loans badge s r (r.drawn + 1) j u (omega arith) there)
            (λ k j u other there mine theirs. let g = in_range r.log r.served r.holder j r.home r.drawn u.stage k (r.each_seat j u there).stage theirs in let is = some_is r.log r.served r.holder j r.home r.drawn k mine in let lt = g.1 in omega arith)
            r.no_others
            (still_home history by loans badge s r id v w at refl refl refl)
            (still_out history by loans badge s r id v w at refl refl refl (ap is_out idle))
            (λ p h. h),
        (r.drawn, r.ticket_is, refl),
      )

  pub looks : (slots id : ℕ) (me : Me (Option V) (View E L B)) (t : ℕ) → me.0.stage ≡ Waits t → Allows (Turned history by loans badge) slots id me 1 (λ n. n) (looked history by loans badge (step slots 1 0 0 none) me)
  looks slots id me t is s r deep at small =
      let v : View E L B = me.0 in
      let x : ℕ = get_or s.words 1 0 in
      let f = r.each_seat id v at in
      let k : Knows r.log r.drawn r.served r.holder id r.home (Waits t) = subst (Knows r.log r.drawn r.served r.holder id r.home) is f.stage in
      let one : in_line v ≡ 1 = ap one_if_in_line is in
      dite (ℕ_discrete x (t % 2 ^ 64))
      (λ hit.
      let w : View E L B = record v { stage = Turn t } in
      let a = short_line history by loans badge s r in
      let low = k.0 in
      let high = k.1 in
      let turn : r.served ≡ t = one_turn r.served t (2 ^ 64) low (omega arith) (sym r.serving_is ∙ hit) in (
        w,
        keeps,
        tt,
        loaded history by loans badge s 1 id s.homes w (moves history by loans badge s r id v w s.words s.homes r.log r.drawn r.served r.holder r.home at r.wide r.deep r.ticket_is r.serving_is r.count_is
            (omega arith)
            refl
            refl
            refl
            record { seen = f.seen; own = f.own; numbered = f.numbered; spent = λ e. let z = ap one_if_in_line (f.spent e) in absurd (omega arith); stage = (sym turn, high); badge = f.badge; first = f.first }
            (λ j u other there. r.each_seat j u there)
            (same_key ticket s.views id v w r.tickets at (sym (ap ticket_in is)))
            r.no_others
            (still_home history by loans badge s r id v w at refl refl refl)
            (still_out history by loans badge s r id v w at refl refl refl (ap is_out is))
            (λ p h. h)),
        (λ t' is'. let same : t ≡ t' = some_is r.log r.served r.holder id r.home t t' (sym (ap ticket_in is) ∙ ap ticket_in is') in
            ((λ _. ap (λ (z : ℕ). let q : View E L B = record v { stage = Turn z } in (q, me.1)) same), (λ no. absurd (no (hit ∙ ap (λ (z : ℕ). z % 2 ^ 64) same))))),
      ))
      (λ miss. (
        v,
        keeps,
        tt,
        unmoved history by loans badge s r 1 id v at,
        (λ t' is'. let same : t ≡ t' = some_is r.log r.served r.holder id r.home t t' (sym (ap ticket_in is) ∙ ap ticket_in is') in
            ((λ yes. absurd (miss (yes ∙ ap (λ (z : ℕ). z % 2 ^ 64) (sym same)))), (λ _. refl))),
      ))

  pub takes_slot : (slots id : ℕ) (me : Me (Option V) (View E L B)) (t : ℕ) → me.0.stage ≡ Turn t → me.0.lives ≡ true → Allows (Turned history by loans badge) slots id me 1 (λ n. n) (took history by loans badge (step slots 1 0 0 none) me)
  takes_slot slots id me t is lives s r deep at small =
      let v : View E L B = me.0 in
      let f = r.each_seat id v at in
      let k : Knows r.log r.drawn r.served r.holder id r.home (Turn t) = subst (Knows r.log r.drawn r.served r.holder id r.home) is f.stage in
      let one : in_line v ≡ 1 = ap one_if_in_line is in
      let at_home : r.home ≡ true = served_once history by loans badge s r id v at (ap ticket_in is ∙ ap Some k.0) (ap is_out is) in
      let h = r.slot_home at_home in
      let x : V = h.0 in
      let w : View E L B = record v { stage = Holds t (history x); note = loans x } in
      let inside : id < length s.views = at_inside s.views id v at in (
        w,
        takes 0 (Some x),
        h.1,
        loaded history by loans badge s 1 id (set s.homes 0 none) w (moves history by loans badge s r id v w s.words (set s.homes 0 none) r.log r.drawn r.served id false at r.wide (length-set s.homes 0 none ∙ r.deep) r.ticket_is r.serving_is r.count_is
            (omega arith)
            refl
            refl
            refl
            record { seen = f.seen; own = f.own; numbered = f.numbered; spent = λ e. absurd (true≢false (sym lives ∙ e)); stage = (k.0, k.1, refl, refl, h.2); badge = f.badge; first = f.first }
            (λ j u other there. let g = r.each_seat j u there in
            record { seen = g.seen; own = g.own; numbered = g.numbered; spent = g.spent; stage = knows_taken r.log r.served r.holder j r.home r.drawn id at_home u.stage g.stage; badge = g.badge; first = g.first })
            (same_key ticket s.views id v w r.tickets at (sym (ap ticket_in is)))
            r.no_others
            (λ e. absurd (true≢false (sym e)))
            (λ _. (w, set_here s.views id w inside, refl, agrees_set (loans x) r.made s.views (λ j. j ≡ id) id v w at refl refl refl ((λ j u there kept live. h.4.0 j u there (λ z. z) live), h.4.1)))
            (λ p g. g)),
        (λ t' is'. let same : t ≡ t' = some_is r.log r.served r.holder id r.home t t' (sym (ap ticket_in is) ∙ ap ticket_in is') in (
          x,
          ap (λ (z : ℕ). let q : View E L B = record v { stage = Holds z (history x); note = loans x } in (q, (0, Some x) ∷ me.1)) same,
          subst (λ (l : List E). StartsWith l v.seen) (sym h.2) f.seen,
          f.badge lives ∙ ap Some (sym h.3),
          h.4.0 id v at (λ z. z) lives,
        )),
      )

  pub counts : (slots id : ℕ) (me : Me (Option V) (View E L B)) (t n : ℕ) (taken : List E) (x : V) → me.0.stage ≡ Holds t taken → me.0.lives ≡ true → me.1 ≡ (0, Some x) ∷ [] → n ≡ length (history x) → Adds by me.0.number taken (history x)
      → Allows (Turned history by loans badge) slots id me 2 (λ _. n) (λ _. counted history by loans badge (step slots 2 n 0 none) me n)
  counts slots id me t n taken x is lives has count adds s r deep at small =
      let v : View E L B = me.0 in
      let f = r.each_seat id v at in
      let k : Knows r.log r.drawn r.served r.holder id r.home (Holds t taken) = subst (Knows r.log r.drawn r.served r.holder id r.home) is f.stage in
      let one : in_line v ≡ 1 = ap one_if_in_line is in
      let log' : List E = history x in
      let w : View E L B = record v { stage = Counted t log'; seen = log'; own = own_of by v.number log' } in
      let inside : id < length s.views = at_inside s.views id v at in
      let adds' : Adds by v.number r.log log' = subst (λ (l : List E). Adds by v.number l log') k.4 adds in
      let longer : StartsWith log' r.log = (adds'.0, adds'.1) in
      let o = r.slot_out k.2 in
      let same : o.0 ≡ v = at_one s.views id o.0 v (subst (λ (z : ℕ). get_elem? s.views z ≡ some o.0) k.3 o.1) at in (
        w,
        keeps,
        tt,
        moves history by loans badge s r id v w (set s.words 2 n) s.homes log' r.drawn r.served r.holder r.home at (length-set s.words 2 n ∙ r.wide) r.deep
            (get_or-set_other s.words 2 0 n 0 (λ e. omega arith) ∙ r.ticket_is)
            (get_or-set_other s.words 2 1 n 0 (λ e. omega arith) ∙ r.serving_is)
            (let a = r.wide in get_or-set_same s.words 2 n 0 (omega arith) ∙ count)
            (omega arith)
            refl
            refl
            refl
            record { seen = starts_whole log'; own = λ _. refl; numbered = f.numbered; spent = λ e. absurd (true≢false (sym lives ∙ e)); stage = (k.0, k.1, k.2, k.3, refl); badge = f.badge; first = f.first }
            (λ j u other there. let g = r.each_seat j u there in
            record {
              seen = starts_more r.log log' u.seen g.seen longer;
              own = λ live. g.own live ∙ sym (own_same by u.number v.number r.log log' (other_number history by loans badge s r id j v u at there lives live other) (g.numbered live).0 adds');
              numbered = g.numbered;
              spent = g.spent;
              stage = knows_apart r.log r.served r.holder j r.home r.drawn log' r.home (λ e. other (sym e ∙ k.3)) u.stage g.stage;
              badge = g.badge;
              first = g.first;
            })
            (same_key ticket s.views id v w r.tickets at (sym (ap ticket_in is)))
            (λ m more. let below = (f.numbered lives).1 in own_same by m v.number r.log log' (λ e. omega arith) (omega arith) adds' ∙ r.no_others m more)
            (λ e. absurd (true≢false (sym e ∙ k.2)))
            (λ _. (
              w,
              subst (λ (z : ℕ). get_elem? (set s.views id w) z ≡ some w) (sym k.3) (set_here s.views id w inside),
              refl,
              agrees_set v.note r.made s.views (λ j. j ≡ r.holder) id v w at refl refl refl (subst (λ (y : View E L B). Agrees y.note r.made s.views (λ j. j ≡ r.holder)) same o.3),
            ))
            (λ p g. (
              g.0 ∙ sym (own_same by p.0 v.number r.log log' (λ e. g.4 id v at lives (sym e)) g.2 adds'),
              starts_more r.log log' p.2 g.1 longer,
              g.2,
              g.3,
              g.4,
            )),
        (λ t' x' taken' is' has'.
            let same_x : x ≡ x' = value_is x x' (sym has ∙ has') in
            let same_t : t ≡ t' = some_is r.log r.served r.holder id r.home t t' (sym (ap ticket_in is) ∙ ap ticket_in is') in
            λ i. ((let q : View E L B = record v { stage = Counted (same_t i) (history (same_x i)); seen = history (same_x i); own = own_of by v.number (history (same_x i)) } in q), me.1)),
      )

  pub homes : (slots id : ℕ) (me : Me (Option V) (View E L B)) (t : ℕ) (log : List E) (x : V) → me.0.stage ≡ Counted t log → me.0.lives ≡ true → me.1 ≡ (0, Some x) ∷ [] → history x ≡ log → me.0.badge ≡ Some (badge x) → SameBut me.0.number (loans x) me.0.note
      → Allows (Turned history by loans badge) slots id me 2 (λ n. n) (came_home history by loans badge (step slots 2 0 0 none) me)
  homes slots id me t log x is lives has told marked same_loans s r deep at small =
      let v : View E L B = me.0 in
      let f = r.each_seat id v at in
      let k : Knows r.log r.drawn r.served r.holder id r.home (Counted t log) = subst (Knows r.log r.drawn r.served r.holder id r.home) is f.stage in
      let one : in_line v ≡ 1 = ap one_if_in_line is in
      let after : Option L = loan_at (loans x) v.number in
      let w : View E L B = record v { stage = Home t; loan = after; ended = ended_by v.loan after v.ended } in
      let o = r.slot_out k.2 in
      let same : o.0 ≡ v = at_one s.views id o.0 v (subst (λ (z : ℕ). get_elem? s.views z ≡ some o.0) k.3 o.1) at in
      let agrees : Agrees v.note r.made s.views (λ j. j ≡ r.holder) = subst (λ (y : View E L B). Agrees y.note r.made s.views (λ j. j ≡ r.holder)) same o.3 in
      let homes' : List (maybe.Option (Option V)) = set s.homes 0 (some (Some x)) in
      let roomy : 0 < length s.homes = (let d = r.deep in omega arith) in
      let marks : Some (badge x) ≡ Some r.mark = sym marked ∙ f.badge lives in
      let mark_is : badge x ≡ r.mark = cc in
      let below = (f.numbered lives).1 in
      let rule : Turned history by loans badge record { words = set s.words 2 (get_or s.words 2 0); homes = homes'; views = set s.views id w } =
      loaded history by loans badge s 2 id homes' w (moves history by loans badge s r id v w s.words homes' r.log r.drawn r.served r.holder true at r.wide (length-set s.homes 0 (some (Some x)) ∙ r.deep) r.ticket_is r.serving_is r.count_is
      (omega arith)
      refl
      refl
      refl
      record { seen = f.seen; own = f.own; numbered = f.numbered; spent = λ e. absurd (true≢false (sym lives ∙ e)); stage = (k.0, k.1); badge = f.badge; first = f.first }
      (λ j u other there. let g = r.each_seat j u there in
      record { seen = g.seen; own = g.own; numbered = g.numbered; spent = g.spent; stage = knows_apart r.log r.served r.holder j r.home r.drawn r.log true (λ e. other (sym e ∙ k.3)) u.stage g.stage; badge = g.badge; first = g.first })
      (same_key ticket s.views id v w r.tickets at (sym (ap ticket_in is)))
      r.no_others
      (λ _. (
        x,
        set_here s.homes 0 (some (Some x)) roomy,
        told ∙ k.4,
        mark_is,
        (
          seats_stay (λ j u. ¬ ⊥ → u.lives ≡ true → loan_at (loans x) u.number ≡ u.loan) s.views id w
              (λ _ _. refl)
              (λ j u other there _ live. same_loans u.number (other_number history by loans badge s r id j v u at there lives live other) ∙ agrees.0 j u there (λ e. other (e ∙ k.3)) live),
          (λ n more. same_loans n (λ e. omega arith) ∙ agrees.1 n more),
        ),
      ))
      (λ e. absurd (true≢false e))
      (λ p g. g)) in (
        w,
        gives,
        tt,
        subst (λ (c : List (ℕ × Option V)). Turned history by loans badge record { words = set s.words 2 (get_or s.words 2 0); homes = put_back s.homes c; views = set s.views id w }) (sym has) rule,
        (λ t' x' log' is' has'.
            let same_x : x ≡ x' = value_is x x' (sym has ∙ has') in
            let same_t : t ≡ t' = some_is r.log r.served r.holder id r.home t t' (sym (ap ticket_in is) ∙ ap ticket_in is') in
            λ i. (
              (let a : Option L = loan_at (loans (same_x i)) v.number in let q : View E L B = record v { stage = Home (same_t i); loan = a; ended = ended_by v.loan a v.ended } in q),
              rest (has i),
            )),
      )

  pub passes : (slots id : ℕ) (me : Me (Option V) (View E L B)) (t : ℕ) → me.0.stage ≡ Home t → me.0.lives ≡ true → Allows (Turned history by loans badge) slots id me 1 (λ n. (n + 1) % 2 ^ 64) (passed history by loans badge (step slots 1 1 0 none) me)
  passes slots id me t is lives s r deep at small =
      let v : View E L B = me.0 in
      let f = r.each_seat id v at in
      let k : Knows r.log r.drawn r.served r.holder id r.home (Home t) = subst (Knows r.log r.drawn r.served r.holder id r.home) is f.stage in
      let one : in_line v ≡ 1 = ap one_if_in_line is in
      let w : View E L B = record v { stage = Idle } in
      let x : ℕ = (get_or s.words 1 0 + 1) % 2 ^ 64 in
      let mine : ticket v ≡ Some r.served = ap ticket_in is ∙ ap Some k.0 in (
        w,
        keeps,
        tt,
        moves history by loans badge s r id v w (set s.words 1 x) s.homes r.log r.drawn (r.served + 1) r.holder r.home at (length-set s.words 1 x ∙ r.wide) r.deep
            (get_or-set_other s.words 1 0 x 0 (λ e. omega arith) ∙ r.ticket_is)
            (let a = r.wide in let b = r.serving_is in get_or-set_same s.words 1 x 0 (omega arith) ∙ (omega arith))
            (get_or-set_other s.words 1 2 x 0 (λ e. omega arith) ∙ r.count_is)
            (omega arith)
            refl
            refl
            refl
            record { seen = f.seen; own = f.own; numbered = f.numbered; spent = λ e. refl; stage = tt; badge = f.badge; first = f.first }
            (λ j u other there. let g = r.each_seat j u there in
            record { seen = g.seen; own = g.own; numbered = g.numbered; spent = g.spent; stage = knows_passed r.log r.served r.holder j r.home r.drawn u.stage (λ theirs. other (r.tickets j id r.served u v there at theirs mine)) g.stage; badge = g.badge; first = g.first })
            (λ k j u other there e. absurd (cc))
            r.no_others
            (still_home history by loans badge s r id v w at refl refl refl)
            (still_out history by loans badge s r id v w at refl refl refl (ap is_out is))
            (λ p h. h),
        refl,
      )

  pub glances : (slots id : ℕ) (me : Me (Option V) (View E L B)) → me.0.stage ≡ Idle → Allows (Turned history by loans badge) slots id me 2 (λ n. n) (glanced history by loans badge (step slots 2 0 0 none) me)
  glances slots id me idle s r deep at small =
      let v : View E L B = me.0 in
      let f = r.each_seat id v at in
      let w : View E L B = record v { seen = r.log } in (
        w,
        keeps,
        tt,
        loaded history by loans badge s 2 id s.homes w (moves history by loans badge s r id v w s.words s.homes r.log r.drawn r.served r.holder r.home at r.wide r.deep r.ticket_is r.serving_is r.count_is
            refl
            refl
            refl
            refl
            record { seen = starts_whole r.log; own = f.own; numbered = f.numbered; spent = f.spent; stage = f.stage; badge = f.badge; first = f.first }
            (λ j u other there. r.each_seat j u there)
            (same_key ticket s.views id v w r.tickets at refl)
            r.no_others
            (still_home history by loans badge s r id v w at refl refl refl)
            (still_out history by loans badge s r id v w at refl refl refl (ap is_out idle))
            (λ p h. h)),
        (r.log, f.seen, r.count_is, refl),
      )
