-- A step of one seat keeps the rule of the lock, where what the seat and the others know still fits.
use Rattle.std.proofs.Common.{◌≡◌, ◌≢◌, ℕ, suc, ◌+◌, ◌%◌, ◌^◌, ◌<◌, ◌≤◌, ◌⊎◌, ◌==◌, Bool, true, false, true≢false, List, [], ◌∷◌, ◌++◌, length, get_or, set, Option, Some, sym, refl, ap, ◌∙◌, subst, ⊎_elim, if◌then◌else◌, ne_eqb, append-nil, arith, All}
use Rattle.std.specs.Prelude.{slice_index}
use mathlib.Core.Option.{none, some, some-ne-none, some-injective}
use mathlib.Core.Option as maybe
use lib.ListN.{get_elem?}
use lib.Seq.{set-get_or}
use Rattle.atomic_table.specs.Table.{State}
use Rattle.atomic_table.proofs.Lists.{set_else, set_again}
use Rattle.std.proofs.lemmas.List.Elements.{filter-append}
use Rattle.turn_lock.specs.declared.View.{View}
use Rattle.turn_lock.specs.declared.Stage.{Stage}
use Rattle.turn_lock.specs.declared.Stage.TheVariants.{Idle, Waits, Turn, Holds, Counted, Home}
use Rattle.turn_lock.specs.Turn.{ticket_in, one_if_in_line, is_out, one_if, some_if, ticket, in_line, alive, number, Knows, own_of, Fits, Turned, Agrees, IsGone, Adds, loan_at}
use Rattle.turn_lock.proofs.Lists.{total_set, total_le, at_one, seats_stay, unique_set, same_key}

module _ {E : Type 0} (log : List E) (served holder seat : ℕ) (home : Bool) where
  pub knows_more : (drawn drawn' : ℕ) → drawn ≤ drawn' → (st : Stage E) → Knows log drawn served holder seat home st → Knows log drawn' served holder seat home st
  knows_more drawn drawn' le Idle k = tt
  knows_more drawn drawn' le (Waits t) k = (k.0, let a = k.1 in omega arith)
  knows_more drawn drawn' le (Turn t) k = (k.0, let a = k.1 in omega arith)
  knows_more drawn drawn' le (Holds t l) k = (k.0, (let a = k.1 in omega arith), k.2, k.3, k.4)
  knows_more drawn drawn' le (Counted t l) k = (k.0, (let a = k.1 in omega arith), k.2, k.3, k.4)
  knows_more drawn drawn' le (Home t) k = (k.0, let a = k.1 in omega arith)

  pub some_is : (a b : ℕ) → Some a ≡ Some b → a ≡ b
  some_is a b e = cc

  -- a ticket that is held lies between the served and the drawn ones
  pub in_range : (drawn : ℕ) (st : Stage E) (t : ℕ) → Knows log drawn served holder seat home st → ticket_in st ≡ Some t → (served ≤ t) × (t < drawn)
  in_range drawn Idle t k e = absurd (cc)
  in_range drawn (Waits u) t k e = let is = some_is u t e in let a = k.0 in let b = k.1 in (omega arith, omega arith)
  in_range drawn (Turn u) t k e = let is = some_is u t e in let a = k.0 in let b = k.1 in (omega arith, omega arith)
  in_range drawn (Holds u l) t k e = let is = some_is u t e in let a = k.0 in let b = k.1 in (omega arith, omega arith)
  in_range drawn (Counted u l) t k e = let is = some_is u t e in let a = k.0 in let b = k.1 in (omega arith, omega arith)
  in_range drawn (Home u) t k e = let is = some_is u t e in let a = k.0 in let b = k.1 in (omega arith, omega arith)

  -- the ticket of the seat that has the slot is the one that is served
  pub out_ticket : (drawn : ℕ) (st : Stage E) → Knows log drawn served holder seat home st → is_out st ≡ true → ticket_in st ≡ Some served
  out_ticket drawn Idle k e = absurd (true≢false (sym e))
  out_ticket drawn (Waits u) k e = absurd (true≢false (sym e))
  out_ticket drawn (Turn u) k e = absurd (true≢false (sym e))
  out_ticket drawn (Holds u l) k e = ap Some k.0
  out_ticket drawn (Counted u l) k e = ap Some k.0
  out_ticket drawn (Home u) k e = absurd (true≢false (sym e))

  -- where the slot is at home, another seat takes it
  pub knows_taken : (drawn holder' : ℕ) → home ≡ true → (st : Stage E) → Knows log drawn served holder seat home st → Knows log drawn served holder' seat false st
  knows_taken drawn holder' h Idle k = tt
  knows_taken drawn holder' h (Waits u) k = k
  knows_taken drawn holder' h (Turn u) k = k
  knows_taken drawn holder' h (Holds u l) k = absurd (true≢false (sym h ∙ k.2))
  knows_taken drawn holder' h (Counted u l) k = absurd (true≢false (sym h ∙ k.2))
  knows_taken drawn holder' h (Home u) k = k

  -- another seat than the holder does not see what the holder does
  pub knows_apart : (drawn : ℕ) (log' : List E) (home' : Bool) → holder ≢ seat → (st : Stage E) → Knows log drawn served holder seat home st → Knows log' drawn served holder seat home' st
  knows_apart drawn log' home' other Idle k = tt
  knows_apart drawn log' home' other (Waits u) k = k
  knows_apart drawn log' home' other (Turn u) k = k
  knows_apart drawn log' home' other (Holds u l) k = absurd (other k.3)
  knows_apart drawn log' home' other (Counted u l) k = absurd (other k.3)
  knows_apart drawn log' home' other (Home u) k = k

  pub knows_passed : (drawn : ℕ) (st : Stage E) → (ticket_in st ≡ Some served → ⊥) → Knows log drawn served holder seat home st → Knows log drawn (served + 1) holder seat home st
  knows_passed drawn Idle other k = tt
  knows_passed drawn (Waits u) other k = let a = k.0 in let ne : u ≢ served = λ e. other (ap Some e) in ((omega arith), k.1)
  knows_passed drawn (Turn u) other k = absurd (other (ap Some k.0))
  knows_passed drawn (Holds u l) other k = absurd (other (ap Some k.0))
  knows_passed drawn (Counted u l) other k = absurd (other (ap Some k.0))
  knows_passed drawn (Home u) other k = absurd (other (ap Some k.0))

module _ {E : Type 0} (by : E → ℕ) where
  -- entries of n or of none are not of m
  pub none_of : (m n : ℕ) → m ≢ n → 0 < m → (added : List E) → All (λ e. (by e ≡ n) ⊎ (by e ≡ 0)) added → own_of by m added ≡ []
  none_of m n apart some_m [] h = refl
  none_of m n apart some_m (e ∷ es) h = let ne : by e ≢ m = ⊎_elim (λ (a : by e ≡ n). λ b. apart (sym b ∙ a)) (λ (a : by e ≡ 0). λ b. omega arith) (h 0 e (omega arith)) in
      subst (λ (b : Bool). (if b then e ∷ own_of by m es else own_of by m es) ≡ []) (sym (ne_eqb (by e) m ne)) (none_of m n apart some_m es (λ k d lt. h (suc k) d (omega arith)))

  pub own_same : (m n : ℕ) (before after : List E) → m ≢ n → 0 < m → Adds by n before after → own_of by m after ≡ own_of by m before
  own_same m n before after apart some_m a = ap (own_of by m) a.1 ∙ (filter-append (λ e. by e == m) before a.0 ∙ (ap (λ l. own_of by m before ++ l) (none_of m n apart some_m a.0 a.2) ∙ append-nil (own_of by m before)))

module _ {E L B : Type 0} where
  pub line_le : (v : View E L B) → (v.lives ≡ false → v.stage ≡ Idle) → in_line v ≤ alive v
  line_le v h = cases v.lives v.stage h
    where
      cases : (b : Bool) (st : Stage E) → (b ≡ false → st ≡ Idle) → one_if_in_line st ≤ one_if b
      cases true Idle h = omega arith
      cases true (Waits t) h = omega arith
      cases true (Turn t) h = omega arith
      cases true (Holds t l) h = omega arith
      cases true (Counted t l) h = omega arith
      cases true (Home t) h = omega arith
      cases false st h = let e = ap one_if_in_line (h refl) in omega arith

module _ {E L B : Type 0} where
  -- a step that leaves the loans leaves what agrees with them
  pub agrees_set : (ls : List (Option L)) (made : ℕ) (views : List (View E L B)) (skip : ℕ → Type 0) (id : ℕ) (v w : View E L B) → get_elem? views id ≡ some v → w.lives ≡ v.lives → w.number ≡ v.number → w.loan ≡ v.loan
      → Agrees ls made views skip → Agrees ls made (set views id w) skip
  agrees_set ls made views skip id v w at lives num loan a = (
    seats_stay (λ j u. ¬ skip j → u.lives ≡ true → loan_at ls u.number ≡ u.loan) views id w
        (λ kept live. ap (loan_at ls) num ∙ (a.0 id v at kept (sym lives ∙ live) ∙ sym loan))
        (λ j u _ there. a.0 j u there),
    a.1,
  )

  pub gone_set : (by : E → ℕ) (log : List E) (made : ℕ) (views : List (View E L B)) (id : ℕ) (v w : View E L B) → get_elem? views id ≡ some v → w.lives ≡ v.lives → w.number ≡ v.number
      → (p : ℕ × List E × List E) → IsGone by log made views p → IsGone by log made (set views id w) p
  gone_set by log made views id v w at lives num p h = (h.0, h.1, h.2, h.3, seats_stay (λ j u. u.lives ≡ true → u.number ≢ p.0) views id w (λ live e. h.4 id v at (sym lives ∙ live) (sym num ∙ e)) (λ j u _ there. h.4 j u there))

module _ {E L B : Type 0} where
  pub is_number : (u : View E L B) (k : ℕ) → number u ≡ Some k → (u.lives ≡ true) × (u.number ≡ k)
  is_number u k e = cases u.lives e
    where
      cases : (b : Bool) → some_if b u.number ≡ Some k → (b ≡ true) × (u.number ≡ k)
      cases true e = (refl, cc)
      cases false e = absurd (cc)

module _ {V : Type 0} where
  abbrev pub first_or : ℕ × Option V → List (ℕ × Option V) → ℕ × Option V
  first_or d [] = d
  first_or d (x ∷ xs) = x

  pub value_is : (x y : V) → ◌≡◌ {A = List (ℕ × Option V)} ((0, Some x) ∷ []) ((0, Some y) ∷ []) → x ≡ y
  value_is x y e = let p : Some x ≡ Some y = ap (λ (l : List (ℕ × Option V)). (first_or (0, Some x) l).1) e in cc

module _ {E L B : Type 0} where
  -- a seat that has the slot lives
  pub lives_if : (u : View E L B) → (u.lives ≡ false → u.stage ≡ Idle) → is_out u.stage ≡ true → u.lives ≡ true
  lives_if u h out = pick u.lives refl
    where
      pick : (b : Bool) → u.lives ≡ b → b ≡ true
      pick true e = refl
      pick false e = absurd (true≢false (sym out ∙ ap is_out (h e)))

module _ {V E L B : Type 0} (history : V → List E) (by : E → ℕ) (loans : V → List (Option L)) (badge : V → B) where
  -- at most 64 tickets are held
  pub short_line : (s : State (Option V) (View E L B)) (r : Turned history by loans badge s) → r.drawn ≤ r.served + 64
  short_line s r = let a = total_le in_line alive s.views (λ j v e. line_le v (r.each_seat j v e).spent) in let b = r.few in let b' = r.bound in let c = r.queued in omega arith

  -- a step of the seat id
  pub moves : (s : State (Option V) (View E L B)) (r : Turned history by loans badge s) (id : ℕ) (v w : View E L B) (words' : List ℕ) (homes' : List (maybe.Option (Option V))) (log' : List E) (drawn' served' holder' : ℕ) (home' : Bool)
      → get_elem? s.views id ≡ some v → length words' ≡ 3 → length homes' ≡ 1
      → slice_index words' 0 ≡ drawn' % 2 ^ 64 → slice_index words' 1 ≡ served' % 2 ^ 64 → slice_index words' 2 ≡ length log'
      → drawn' + r.served + in_line v ≡ r.drawn + served' + in_line w
      → w.lives ≡ v.lives → w.number ≡ v.number → w.joined ≡ v.joined
      → Fits by log' drawn' served' holder' r.made id home' r.mark w
      → ((j : ℕ) (u : View E L B) → j ≢ id → get_elem? s.views j ≡ some u → Fits by log' drawn' served' holder' r.made j home' r.mark u)
      → ((k j : ℕ) (u : View E L B) → j ≢ id → get_elem? s.views j ≡ some u → ticket w ≡ Some k → ticket u ≡ Some k → ⊥)
      → ((n : ℕ) → r.made < n → own_of by n log' ≡ [])
      → (home' ≡ true → (x : V) × (get_elem? homes' 0 ≡ some (some (Some x))) × (history x ≡ log') × (badge x ≡ r.mark) × Agrees (loans x) r.made (set s.views id w) (λ _. ⊥))
      → (home' ≡ false → (u : View E L B) × (get_elem? (set s.views id w) holder' ≡ some u) × (is_out u.stage ≡ true) × Agrees u.note r.made (set s.views id w) (λ j. j ≡ holder'))
      → ((p : ℕ × List E × List E) → IsGone by r.log r.made s.views p → IsGone by log' r.made s.views p)
      → Turned history by loans badge record { words = words'; homes = homes'; views = set s.views id w }
  moves s r id v w words' homes' log' drawn' served' holder' home' at wide deep t0 t1 t2 line lives num joins mine others fresh none_other at_home out left = record {
    log = log';
    drawn = drawn';
    served = served';
    holder = holder';
    made = r.made;
    home = home';
    mark = r.mark;
    wide = wide;
    deep = deep;
    ticket_is = t0;
    serving_is = t1;
    count_is = t2;
    queued = let a = total_set in_line s.views id v w at in let b = r.queued in omega arith;
    few = let a = total_set alive s.views id v w at in let b = r.few in let c : one_if w.lives ≡ one_if v.lives = ap one_if lives in omega arith;
    bound = r.bound;
    each_seat = seats_stay (λ j u. Fits by log' drawn' served' holder' r.made j home' r.mark u) s.views id w mine others;
    tickets = unique_set ticket s.views id w r.tickets fresh;
    numbers = unique_set number s.views id w r.numbers (same_key number s.views id v w r.numbers at (λ i. some_if (lives i) (num i)));
    no_others = none_other;
    slot_home = at_home;
    slot_out = out;
    joined = seats_stay (λ j u. u.number ≡ 1 → (i : ℕ) (p : ℕ × List E × List E) → get_elem? u.joined i ≡ some p → IsGone by log' r.made (set s.views id w) p) s.views id w
        (λ is i p there. gone_set by log' r.made s.views id v w at lives num p (left p (r.joined id v at (sym num ∙ is) i p (subst (λ l. get_elem? l i ≡ some p) joins there))))
        (λ j u _ there is i p at_i. gone_set by log' r.made s.views id v w at lives num p (left p (r.joined j u there is i p at_i)));
  }

  -- the slot at home stays so, where the seat keeps its loan
  pub still_home : (s : State (Option V) (View E L B)) (r : Turned history by loans badge s) (id : ℕ) (v w : View E L B) → get_elem? s.views id ≡ some v → w.lives ≡ v.lives → w.number ≡ v.number → w.loan ≡ v.loan
      → r.home ≡ true → (x : V) × (get_elem? s.homes 0 ≡ some (some (Some x))) × (history x ≡ r.log) × (badge x ≡ r.mark) × Agrees (loans x) r.made (set s.views id w) (λ _. ⊥)
  still_home s r id v w at lives num loan home = let h = r.slot_home home in (h.0, h.1, h.2, h.3, agrees_set (loans h.0) r.made s.views (λ _. ⊥) id v w at lives num loan h.4)

  -- a seat that has not the slot leaves the one that has it
  pub still_out : (s : State (Option V) (View E L B)) (r : Turned history by loans badge s) (id : ℕ) (v w : View E L B) → get_elem? s.views id ≡ some v → w.lives ≡ v.lives → w.number ≡ v.number → w.loan ≡ v.loan → is_out v.stage ≡ false
      → r.home ≡ false → (u : View E L B) × (get_elem? (set s.views id w) r.holder ≡ some u) × (is_out u.stage ≡ true) × Agrees u.note r.made (set s.views id w) (λ j. j ≡ r.holder)
  still_out s r id v w at lives num loan not_out away = let o = r.slot_out away in
      let apart : r.holder ≢ id = λ e. true≢false (sym o.2 ∙ (ap (λ (x : View E L B). is_out x.stage) (at_one s.views id o.0 v (subst (λ (k : ℕ). get_elem? s.views k ≡ some o.0) e o.1) at) ∙ not_out)) in
      (o.0, set_else s.views id r.holder w apart ∙ o.1, o.2, agrees_set o.0.note r.made s.views (λ j. j ≡ r.holder) id v w at lives num loan o.3)

  -- the same numbers and lists, where more tickets are drawn
  pub fits_more : (s : State (Option V) (View E L B)) (r : Turned history by loans badge s) (drawn' j : ℕ) (u : View E L B) → r.drawn ≤ drawn' → get_elem? s.views j ≡ some u → Fits by r.log drawn' r.served r.holder r.made j r.home r.mark u
  fits_more s r drawn' j u le there = let g = r.each_seat j u there in
      record { seen = g.seen; own = g.own; numbered = g.numbered; spent = g.spent; stage = knows_more r.log r.served r.holder j r.home r.drawn drawn' le u.stage g.stage; badge = g.badge; first = g.first }

  -- a load leaves the words as they were
  pub loaded : (s : State (Option V) (View E L B)) (i id : ℕ) (homes' : List (maybe.Option (Option V))) (w : View E L B) → Turned history by loans badge record { words = s.words; homes = homes'; views = set s.views id w }
      → Turned history by loans badge record { words = set s.words i (get_or s.words i 0); homes = homes'; views = set s.views id w }
  loaded s i id homes' w h = subst (λ (ws : List ℕ). Turned history by loans badge record { words = ws; homes = homes'; views = set s.views id w }) (sym (set-get_or s.words i 0)) h

  pub unmoved : (s : State (Option V) (View E L B)) (r : Turned history by loans badge s) (i id : ℕ) (v : View E L B) → get_elem? s.views id ≡ some v → Turned history by loans badge record { words = set s.words i (get_or s.words i 0); homes = s.homes; views = set s.views id v }
  unmoved s r i id v at = loaded s i id s.homes v (subst (λ (vs : List (View E L B)). Turned history by loans badge record { words = s.words; homes = s.homes; views = vs }) (sym (set_again s.views id v at)) r)

  -- a seat that holds the served ticket is the only one
  pub served_once : (s : State (Option V) (View E L B)) (r : Turned history by loans badge s) (id : ℕ) (v : View E L B) → get_elem? s.views id ≡ some v → ticket v ≡ Some r.served → is_out v.stage ≡ false → r.home ≡ true
  served_once s r id v at mine not_out = cases r.home refl
    where
      cases : (b : Bool) → r.home ≡ b → b ≡ true
      cases true e = refl
      cases false e = let o = r.slot_out e in
          let theirs : ticket o.0 ≡ Some r.served = out_ticket r.log r.served r.holder r.holder r.home r.drawn o.0.stage (r.each_seat r.holder o.0 o.1).stage o.2 in
          let same : r.holder ≡ id = r.tickets r.holder id r.served o.0 v o.1 at theirs mine in
          absurd (true≢false (sym o.2 ∙ (ap (λ (x : View E L B). is_out x.stage) (at_one s.views id o.0 v (subst (λ (k : ℕ). get_elem? s.views k ≡ some o.0) same o.1) at) ∙ not_out)))

  -- two seats that live have different numbers
  pub other_number : (s : State (Option V) (View E L B)) (r : Turned history by loans badge s) (id j : ℕ) (v u : View E L B) → get_elem? s.views id ≡ some v → get_elem? s.views j ≡ some u → v.lives ≡ true → u.lives ≡ true → j ≢ id → u.number ≢ v.number
  other_number s r id j v u at there lives live other e = other (r.numbers j id v.number u v there at (ap (λ (b : Bool). some_if b u.number) live ∙ ap Some e) (ap (λ (b : Bool). some_if b v.number) lives))
