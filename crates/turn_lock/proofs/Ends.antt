-- A lock begins with the rule. The rule stays where a seat is split off or joined, and tells what the value has at the end.
use Rattle.std.proofs.Common.{◌≡◌, ◌≢◌, ℕ, ◌+◌, ◌<◌, ◌≤◌, Bool, true, false, true≢false, List, [], ◌∷◌, ◌++◌, length, set, Option, Some, None, sym, refl, ap, ◌∙◌, subst, ⊎_elim, arith}
use mathlib.Core.Logic.{dite}
use mathlib.Core.Option.{some, some-ne-none}
use native.Mathlib.Decide.{ℕ_discrete}
use lib.ListN.{get_elem?}
use Rattle.atomic_table.specs.Table.{State, Splits, Joins, opening, Final, Seen}
use Rattle.atomic_table.proofs.Lists.{set_else, at_longer}
use Rattle.turn_lock.specs.declared.View.{View}
use Rattle.turn_lock.specs.declared.Stage.TheVariants.{Idle}
use Rattle.turn_lock.specs.Turn.{StartsWith, one_if_in_line, is_out, some_if, ticket, in_line, alive, number, own_of, Fits, Turned, Agrees, IsGone, loan_at, starting, makes, is_made, takes_in, gone}
use Rattle.turn_lock.specs.Rounds.{IsLeftBy}
use Rattle.turn_lock.proofs.Lists.{total_set, at_one, seats_stay, unique_set, same_key, total_snoc, at_end, unique_snoc, all_snoc, one_view}
use Rattle.turn_lock.proofs.Keeps.{agrees_set, gone_set, is_number, lives_if, still_home, still_out, other_number}

module _ {V E L B : Type 0} (history : V → List E) (by : E → ℕ) (loans : V → List (Option L)) (badge : V → B) where
  pub starts : (x : V) → history x ≡ [] → ((n : ℕ) → loan_at (loans x) n ≡ None) → Turned history by loans badge (opening {V = View E L B} (0 ∷ 0 ∷ 0 ∷ []) (Some x ∷ []) (starting (badge x)))
  starts x told free = let w : View E L B = starting (badge x) in record {
    log = [];
    drawn = 0;
    served = 0;
    holder = 0;
    made = 1;
    home = true;
    mark = badge x;
    wide = refl;
    deep = refl;
    ticket_is = refl;
    serving_is = refl;
    count_is = refl;
    queued = omega arith;
    few = omega arith;
    bound = omega arith;
    each_seat = λ j v e. let o = one_view w j v e in subst (λ (z : ℕ × View E L B). Fits by [] 0 0 0 1 z.0 true (badge x) z.1) (λ i. (sym o.0 i, o.1 i))
        record { seen = ([], refl); own = λ _. refl; numbered = λ _. (omega arith, omega arith); spent = λ _. refl; stage = tt; badge = λ _. refl; first = λ _. (refl, refl, refl) };
    tickets = λ i j k u v a b _ _. (one_view w i u a).0 ∙ sym (one_view w j v b).0;
    numbers = λ i j k u v a b _ _. (one_view w i u a).0 ∙ sym (one_view w j v b).0;
    no_others = λ n m. refl;
    slot_home = λ _. (x, refl, told, refl, ((λ j u e _ _. free u.number ∙ ap (λ (v : View E L B). v.loan) (one_view w j u e).1), (λ n _. free n)));
    slot_out = λ e. absurd (true≢false e);
    joined = λ j v e _ i p at. absurd (some-ne-none p (sym (ap (λ (u : View E L B). get_elem? u.joined i) (one_view w j v e).1 ∙ at)));
  }

  -- another seat that lives has the same facts where one more number is made
  fits_made : (s : State (Option V) (View E L B)) (r : Turned history by loans badge s) (id j : ℕ) (u : View E L B) → id ≡ 0 → j ≢ id → get_elem? s.views j ≡ some u → Fits by r.log r.drawn r.served r.holder (r.made + 1) j r.home r.mark u
  fits_made s r id j u zeroth other there = let g = r.each_seat j u there in
      record { seen = g.seen; own = g.own; numbered = λ live. let n = g.numbered live in let le = n.1 in (n.0, omega arith); spent = g.spent; stage = g.stage; badge = g.badge; first = λ is. absurd (other ((g.first is).0 ∙ sym zeroth)) }

  agrees_made : (ls : List (Option L)) (made : ℕ) (views : List (View E L B)) (skip : ℕ → Type 0) (w : View E L B) → w.number ≡ made + 1 → w.loan ≡ None → Agrees ls made views skip → Agrees ls (made + 1) (views ++ w ∷ []) skip
  agrees_made ls made views skip w num none_yet a = (
    all_snoc (λ j u. ¬ skip j → u.lives ≡ true → loan_at ls u.number ≡ u.loan) views w a.0 (λ j _ _. ap (loan_at ls) num ∙ (a.1 (made + 1) (omega arith) ∙ sym none_yet)),
    λ n more. a.1 n (omega arith),
  )

  gone_made : (log : List E) (made : ℕ) (views : List (View E L B)) (w : View E L B) → w.number ≡ made + 1 → (p : ℕ × List E × List E) → IsGone by log made views p → IsGone by log (made + 1) (views ++ w ∷ []) p
  gone_made log made views w num p h = let le = h.3 in (h.0, h.1, h.2, omega arith, all_snoc (λ j u. u.lives ≡ true → u.number ≢ p.0) views w h.4 (λ j _ e. omega arith))

  pub splits : (id : ℕ) (v : View E L B) → v.number ≡ 1 → v.stage ≡ Idle → v.made < 64 → Splits (Turned history by loans badge) id v (makes v) (is_made v)
  splits id v one idle room s r at =
      let f = r.each_seat id v at in
      let top = f.first one in
      let some_made = (f.numbered top.1).1 in
      let w : View E L B = makes v in
      let o : View E L B = is_made v in
      let made_is : v.made ≡ r.made = top.2 in
      let num : o.number ≡ r.made + 1 = ap (λ (n : ℕ). n + 1) made_is in
      let vs : List (View E L B) = set s.views id w in record {
        log = r.log;
        drawn = r.drawn;
        served = r.served;
        holder = r.holder;
        made = r.made + 1;
        home = r.home;
        mark = r.mark;
        wide = r.wide;
        deep = r.deep;
        ticket_is = r.ticket_is;
        serving_is = r.serving_is;
        count_is = r.count_is;
        queued = let a = total_snoc in_line vs o in let b = total_set in_line s.views id v w at in let c = r.queued in omega arith;
        few = let a = total_snoc alive vs o in let b = total_set alive s.views id v w at in let c = r.few in omega arith;
        bound = omega arith;
        each_seat = all_snoc (λ j u. Fits by r.log r.drawn r.served r.holder (r.made + 1) j r.home r.mark u) vs o
            (seats_stay (λ j u. Fits by r.log r.drawn r.served r.holder (r.made + 1) j r.home r.mark u) s.views id w
            record { seen = f.seen; own = f.own; numbered = λ live. let n = f.numbered live in let le = n.1 in (n.0, omega arith); spent = f.spent; stage = f.stage; badge = f.badge; first = λ is. (top.0, top.1, ap (λ (n : ℕ). n + 1) made_is) }
            (λ j u other there. fits_made s r id j u top.0 other there))
            (λ j. record {
              seen = f.seen;
              own = λ _. sym (r.no_others (v.made + 1) (omega arith));
              numbered = λ _. (omega arith, omega arith);
              spent = λ _. refl;
              stage = tt;
              badge = λ _. f.badge top.1;
              first = λ is. absurd (omega arith);
            });
        tickets = unique_snoc ticket vs o (unique_set ticket s.views id w r.tickets (same_key ticket s.views id v w r.tickets at refl)) (λ k j u there e. absurd (cc));
        numbers = unique_snoc number vs o (unique_set number s.views id w r.numbers (same_key number s.views id v w r.numbers at refl))
            (seats_below s r id v w at refl refl o num);
        no_others = λ n more. r.no_others n (omega arith);
        slot_home = λ home. let h = still_home history by loans badge s r id v w at refl refl refl home in (h.0, h.1, h.2, h.3, agrees_made (loans h.0) r.made vs (λ _. ⊥) o num refl h.4);
        slot_out = λ away. let h = still_out history by loans badge s r id v w at refl refl refl (ap is_out idle) away in (h.0, at_longer vs (o ∷ []) r.holder h.0 h.1, h.2, agrees_made h.0.note r.made vs (λ j. j ≡ r.holder) o num refl h.3);
        joined = all_snoc (λ j u. u.number ≡ 1 → (i : ℕ) (p : ℕ × List E × List E) → get_elem? u.joined i ≡ some p → IsGone by r.log (r.made + 1) (vs ++ o ∷ []) p) vs o
            (seats_stay (λ j u. u.number ≡ 1 → (i : ℕ) (p : ℕ × List E × List E) → get_elem? u.joined i ≡ some p → IsGone by r.log (r.made + 1) (vs ++ o ∷ []) p) s.views id w
            (λ is i p there. gone_made r.log r.made vs o num p (gone_set by r.log r.made s.views id v w at refl refl p (r.joined id v at is i p there)))
            (λ j u _ there is i p at_i. gone_made r.log r.made vs o num p (gone_set by r.log r.made s.views id v w at refl refl p (r.joined j u there is i p at_i))))
            (λ j is. absurd (omega arith));
      }
    where
      seats_below : (s : State (Option V) (View E L B)) (r : Turned history by loans badge s) (id : ℕ) (v w : View E L B) → get_elem? s.views id ≡ some v → w.lives ≡ v.lives → w.number ≡ v.number → (o : View E L B) → o.number ≡ r.made + 1
          → (k j : ℕ) (u : View E L B) → get_elem? (set s.views id w) j ≡ some u → number o ≡ Some k → number u ≡ Some k → ⊥
      seats_below s r id v w at lives num o new k j u there e e' =
          let below : u.lives ≡ true → u.number ≤ r.made = seats_stay (λ j (x : View E L B). x.lives ≡ true → x.number ≤ r.made) s.views id w
          (λ live. subst (λ (n : ℕ). n ≤ r.made) (sym num) ((r.each_seat id v at).numbered (sym lives ∙ live)).1) (λ i x _ h live. ((r.each_seat i x h).numbered live).1) j u there in
          let a = is_number o k e in
          let b = is_number u k e' in
          let le = below b.0 in
          let n = b.1 in
          let m = a.1 in
          omega arith

  pub joins : (id : ℕ) (v : View E L B) (other : ℕ) (x : View E L B) → v.stage ≡ Idle → x.stage ≡ Idle → x.lives ≡ true
      → Joins (Turned history by loans badge) id v other x (takes_in v x) gone
  joins id v other x idle idle' lives s r at apart there' =
      let w : View E L B = takes_in v x in
      let there : get_elem? s.views other ≡ some x = sym (set_else s.views id other w apart) ∙ there' in
      let f = r.each_seat id v at in
      let h = r.each_seat other x there in
      let o : View E L B = gone in
      let ws : List (View E L B) = set s.views id w in
      let vs : List (View E L B) = set ws other o in
      let F : ℕ → View E L B → Type 0 = λ j u. Fits by r.log r.drawn r.served r.holder r.made j r.home r.mark u in
      let G : ℕ → View E L B → Type 0 = λ j u. u.number ≡ 1 → (i : ℕ) (p : ℕ × List E × List E) → get_elem? u.joined i ≡ some p → IsGone by r.log r.made vs p in
      let fewer : (p : ℕ × List E × List E) → IsGone by r.log r.made s.views p → IsGone by r.log r.made vs p = λ p g. let g' = gone_set by r.log r.made s.views id v w at refl refl p g in
      (g'.0, g'.1, g'.2, g'.3, seats_stay (λ j (u : View E L B). u.lives ≡ true → u.number ≢ p.0) ws other o (λ live. absurd (true≢false (sym live))) (λ j u _ e. g'.4 j u e)) in
      let mine : IsGone by r.log r.made vs (x.number, x.own, x.seen) = (
        h.own lives,
        h.seen,
        (h.numbered lives).0,
        (h.numbered lives).1,
        seats_stay (λ j (u : View E L B). u.lives ≡ true → u.number ≢ x.number) ws other o (λ live. absurd (true≢false (sym live)))
            (λ j u apart' e live. seats_stay (λ j (u : View E L B). j ≢ other → u.lives ≡ true → u.number ≢ x.number) s.views id w
            (λ a l. other_number history by loans badge s r other id x v there at lives l a)
            (λ i y _ e' a l. other_number history by loans badge s r other i x y there e' lives l a) j u e apart' live),
      ) in
      let loans_stay : (ls : List (Option L)) (skip : ℕ → Type 0) → Agrees ls r.made s.views skip → Agrees ls r.made vs skip = λ ls skip a. (
        seats_stay (λ j (u : View E L B). ¬ skip j → u.lives ≡ true → loan_at ls u.number ≡ u.loan) ws other o (λ _ live. absurd (true≢false (sym live)))
            (λ j u _ e. (agrees_set ls r.made s.views skip id v w at refl refl refl a).0 j u e),
        a.1,
      ) in record {
        log = r.log;
        drawn = r.drawn;
        served = r.served;
        holder = r.holder;
        made = r.made;
        home = r.home;
        mark = r.mark;
        wide = r.wide;
        deep = r.deep;
        ticket_is = r.ticket_is;
        serving_is = r.serving_is;
        count_is = r.count_is;
        queued = let a = total_set in_line s.views id v w at in let b = total_set in_line ws other x o there' in let z : in_line x ≡ 0 = ap one_if_in_line idle' in let c = r.queued in omega arith;
        few = let a = total_set alive s.views id v w at in let b = total_set alive ws other x o there' in let c = r.few in omega arith;
        bound = r.bound;
        each_seat = seats_stay F ws other o
            record { seen = (r.log, refl); own = λ live. absurd (true≢false (sym live)); numbered = λ live. absurd (true≢false (sym live)); spent = λ _. refl; stage = tt; badge = λ live. absurd (true≢false (sym live)); first = λ is. absurd (omega arith) }
            (λ j u _ e. seats_stay F s.views id w record { seen = f.seen; own = f.own; numbered = f.numbered; spent = f.spent; stage = f.stage; badge = f.badge; first = f.first } (λ i y _ e'. r.each_seat i y e') j u e);
        tickets = unique_set ticket ws other o (unique_set ticket s.views id w r.tickets (same_key ticket s.views id v w r.tickets at refl)) (λ k j u _ _ e. absurd (cc));
        numbers = unique_set number ws other o (unique_set number s.views id w r.numbers (same_key number s.views id v w r.numbers at refl)) (λ k j u _ _ e. absurd (cc));
        no_others = r.no_others;
        slot_home = λ home. let a = r.slot_home home in (a.0, a.1, a.2, a.3, loans_stay (loans a.0) (λ _. ⊥) a.4);
        slot_out = λ away. let a = r.slot_out away in
            let not_here : r.holder ≢ other = λ e. true≢false (sym a.2 ∙ (ap (λ (y : View E L B). is_out y.stage) (at_one s.views other a.0 x (subst (λ (k : ℕ). get_elem? s.views k ≡ some a.0) e a.1) there) ∙ ap is_out idle')) in
            let not_me : r.holder ≢ id = λ e. true≢false (sym a.2 ∙ (ap (λ (y : View E L B). is_out y.stage) (at_one s.views id a.0 v (subst (λ (k : ℕ). get_elem? s.views k ≡ some a.0) e a.1) at) ∙ ap is_out idle)) in
            (a.0, set_else ws other r.holder o not_here ∙ (set_else s.views id r.holder w not_me ∙ a.1), a.2, loans_stay a.0.note (λ j. j ≡ r.holder) a.3);
        joined = seats_stay G ws other o (λ is. absurd (omega arith))
            (λ j u _ e. seats_stay G s.views id w
            (λ is i p e'. ⊎_elim (λ (was : get_elem? v.joined i ≡ some p). fewer p (r.joined id v at is i p was))
            (λ (t : (i ≡ length v.joined) × ((x.number, x.own, x.seen) ≡ p)). subst (IsGone by r.log r.made vs) t.1 mine)
            (at_end v.joined (x.number, x.own, x.seen) p i e'))
            (λ i y _ e' is n p e''. fewer p (r.joined i y e' is n p e'')) j u e);
      }

  -- where the first seat has taken in all others, the value is at home
  pub closes : (s : State (Option V) (View E L B)) (r : Turned history by loans badge s) (id : ℕ) (v : View E L B) → get_elem? s.views id ≡ some v → v.number ≡ 1 → v.stage ≡ Idle
      → ((n : ℕ) → 1 < n → n ≤ v.made → (i : ℕ) × (p : ℕ × List E × List E) × (get_elem? v.joined i ≡ some p) × (p.0 ≡ n))
      → (x : V) × (get_elem? s.homes 0 ≡ some (some (Some x))) × (history x ≡ r.log)
  closes s r id v at first idle all = cases r.home refl
    where
      cases : (b : Bool) → r.home ≡ b → (x : V) × (get_elem? s.homes 0 ≡ some (some (Some x))) × (history x ≡ r.log)
      cases true e = let h = r.slot_home e in (h.0, h.1, h.2)
      cases false e =
          let o = r.slot_out e in
          let f = r.each_seat id v at in
          let top = f.first first in
          let g = r.each_seat r.holder o.0 o.1 in
          let lives : o.0.lives ≡ true = lives_if o.0 g.spent o.2 in
          let n = g.numbered lives in
          let above = n.0 in
          let below = n.1 in
          absurd (dite (ℕ_discrete o.0.number 1)
          (λ one. let same : r.holder ≡ id = r.numbers r.holder id 1 o.0 v o.1 at (ap (λ (b : Bool). some_if b o.0.number) lives ∙ ap Some one) (ap (λ (b : Bool). some_if b v.number) top.1 ∙ ap Some first) in
          true≢false (sym o.2 ∙ (ap (λ (y : View E L B). is_out y.stage) (at_one s.views id o.0 v (subst (λ (k : ℕ). get_elem? s.views k ≡ some o.0) same o.1) at) ∙ ap is_out idle)))
          (λ more. let made_is = top.2 in let c = all o.0.number (omega arith) (omega arith) in
          (r.joined id v at first c.0 c.1 c.2).4 r.holder o.0 o.1 lives (sym c.3)))

  pub ends : (id : ℕ) (v : View E L B) (ws : List ℕ) (xs : List (Option V)) → v.number ≡ 1 → v.stage ≡ Idle → v.lives ≡ true
      → ((n : ℕ) → 1 < n → n ≤ v.made → (i : ℕ) × (p : ℕ × List E × List E) × (get_elem? v.joined i ≡ some p) × (p.0 ≡ n))
      → Final (Seen (Turned history by loans badge) id v) ws xs → (x : V) × (get_elem? xs 0 ≡ some (Some x)) × IsLeftBy history by v x
  ends id v ws xs first idle lives all f =
      let s = f.0 in
      let r = f.1.0 in
      let at = f.1.1 in
      let h = closes s r id v at first idle all in
      let g = r.each_seat id v at in
      let made_is = (g.first first).2 in
      let told : r.log ≡ history h.0 = sym h.2 in (
        h.0,
        f.4 0 (Some h.0) h.1,
        record {
          seen = subst (λ (l : List E). StartsWith l v.seen) told g.seen;
          own = g.own lives ∙ ap (own_of by v.number) told;
          joined = λ i p e. let j = r.joined id v at first i p e in (j.0 ∙ ap (own_of by p.0) told, subst (λ (l : List E). StartsWith l p.2) told j.1);
          no_others = λ n more. ap (own_of by n) (sym told) ∙ r.no_others n (omega arith);
        },
      )
