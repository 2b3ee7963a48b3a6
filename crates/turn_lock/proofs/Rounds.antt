-- The seats while they are made, and while they are taken in.
use Rattle.std.proofs.Common.{◌≡◌, ◌≢◌, ℕ, zero, suc, ◌+◌, ◌<◌, ◌≤◌, ◌==◌, Bool, true, false, List, [], ◌∷◌, ◌++◌, length, set, All, Option, Some, sym, refl, ap, ◌∙◌, subst, ⊎_elim, arith, length-set, length-append, remove, slice_index_or, slice_get, eq-eqb, append_assoc, if◌then◌else◌}
use mathlib.Core.Option.{some, some-ne-none, some-injective}
use lib.ListN.{get_elem?}
use Rattle.atomic_table.specs.Seated.{TableId}
use Rattle.atomic_table.proofs.Lists.{at_set, at_longer}
use Rattle.turn_lock.specs.declared.Seat.{Seat}
use Rattle.turn_lock.specs.declared.View.{View}
use Rattle.turn_lock.specs.Locks.{IsSeat, AreAll}
use Rattle.turn_lock.specs.Rounds.{AreMade, AreOthers, IsGathered, IsLeftBy}
use Rattle.turn_lock.specs.Seats.{seat_view, lock_of, Rests, IsNew}
use Rattle.turn_lock.specs.Turn.{StartsWith, own_of, fresh, makes, is_made, takes_in}
use Rattle.turn_lock.proofs.Lists.{at_end, one_view}

module _ {A : Type 0} where
  pub got : (xs : List A) (i : ℕ) (x : A) → get_elem? xs i ≡ some x → slice_get xs i ≡ Some x
  got [] i x e = absurd (some-ne-none x (sym e))
  got (y ∷ ys) zero x e = ap Some (some-injective y x e)
  got (y ∷ ys) (suc i) x e = got ys i x e

  pub had : (xs : List A) (i : ℕ) (x : A) → slice_get xs i ≡ Some x → get_elem? xs i ≡ some x
  had [] i x e = absurd (cc)
  had (y ∷ ys) zero x e = let same : y ≡ x = cc in ap some same
  had (y ∷ ys) (suc i) x e = had ys i x e

  pub at_index : (xs : List A) (i : ℕ) (d : A) → i < length xs → get_elem? xs i ≡ some (slice_index_or xs i d)
  at_index [] i d lt = absurd (omega arith)
  at_index (y ∷ ys) zero d lt = refl
  at_index (y ∷ ys) (suc i) d lt = at_index ys i d (omega arith)

  pub at_middle : (xs : List A) (x : A) (ys : List A) → get_elem? ((xs ++ x ∷ []) ++ ys) (length xs) ≡ some x
  at_middle [] x ys = refl
  at_middle (z ∷ zs) x ys = at_middle zs x ys

  pub at_last : (xs : List A) (x : A) → get_elem? (xs ++ x ∷ []) (length xs) ≡ some x
  at_last [] x = refl
  at_last (z ∷ zs) x = at_last zs x

  pub none_left : (xs : List A) → length xs ≡ 0 → xs ≡ []
  none_left [] e = refl
  none_left (x ∷ xs) e = absurd (omega arith)

  tail_empty : (b : Bool) (x : A) (xs : List A) → (if b then x ∷ xs else xs) ≡ [] → xs ≡ []
  tail_empty true x xs e = absurd (cc)
  tail_empty false x xs e = e

module _ {E : Type 0} (by : E → ℕ) where
  -- where no number above m has an entry, each entry tells a number up to m
  bounded : (m : ℕ) (log : List E) → ((n : ℕ) → m < n → own_of by n log ≡ []) → All (λ e. by e ≤ m) log
  bounded m [] h k d lt = absurd (omega arith)
  bounded m (e ∷ es) h zero d lt =
      let X : List E = own_of by (by e) es in
      let no : ¬ (m < by e) = λ more. let here : e ∷ X ≡ [] = subst (λ (b : Bool). (if b then e ∷ X else X) ≡ []) (eq-eqb (by e) (by e) refl) (h (by e) more) in absurd (cc) in
      omega arith
  bounded m (e ∷ es) h (suc k) d lt = bounded m es (λ n more. tail_empty (by e == n) e (own_of by n es) (h n more)) k d (omega arith)

module _ {V E L B : Type 0} where
  pub one_made : (lock : TableId) (b : B) (seat : Seat V E L B) → lock_of seat ≡ lock → seat.place.me ≡ (fresh 1 1 b, []) → AreMade lock b 1 (seat ∷ [])
  one_made lock b seat of_lock is = record {
    count = refl;
    first = λ s e. subst (λ (u : Seat V E L B). (lock_of u ≡ lock) × (u.place.me ≡ (fresh 1 1 b, []))) (one_view seat 0 s e).1 (of_lock, is);
    others = λ i s above e. let zeroth = (one_view seat i s e).0 in absurd (omega arith);
  }

  pub more_made : (lock : TableId) (b : B) (n : ℕ) (seats : List (Seat V E L B)) (first first' next : Seat V E L B) → 0 < n → AreMade lock b n seats → get_elem? seats 0 ≡ some first
      → lock_of first' ≡ lock_of first → first'.place.me ≡ (makes (seat_view first), []) → lock_of next ≡ lock_of first → next.place.me ≡ (is_made (seat_view first), [])
      → AreMade lock b (n + 1) (set seats 0 first' ++ next ∷ [])
  more_made lock b n seats first first' next some_made m at same_lock is next_lock next_is =
      let f = m.first first at in
      let was : seat_view first ≡ fresh 1 n b = ap (λ (p : View E L B × List (ℕ × Option V)). p.0) f.1 in
      let mine : first'.place.me ≡ (fresh 1 (n + 1) b, []) = is ∙ ap (λ (u : View E L B). (makes u, [])) was in
      let its : next.place.me ≡ (fresh (n + 1) 0 b, []) = next_is ∙ ap (λ (u : View E L B). (is_made u, [])) was in
      let front : List (Seat V E L B) = set seats 0 first' in
      let long : length front ≡ n = length-set seats 0 first' ∙ m.count in record {
        count = length-append front (next ∷ []) ∙ (omega arith);
        first = λ s e. ⊎_elim
            (λ (h : get_elem? front 0 ≡ some s). ⊎_elim
            (λ (t : (0 ≡ 0) × (first' ≡ s)). subst (λ (u : Seat V E L B). (lock_of u ≡ lock) × (u.place.me ≡ (fresh 1 (n + 1) b, []))) t.1 (same_lock ∙ f.0, mine))
            (λ (t : (0 ≢ 0) × (get_elem? seats 0 ≡ some s)). absurd (t.0 refl))
            (at_set seats 0 0 first' s h))
            (λ (t : (0 ≡ length front) × (next ≡ s)). let z = t.0 in absurd (omega arith))
            (at_end front next s 0 e);
        others = λ i s above e. ⊎_elim
            (λ (h : get_elem? front i ≡ some s). ⊎_elim
            (λ (t : (i ≡ 0) × (first' ≡ s)). let z = t.0 in absurd (omega arith))
            (λ (t : (i ≢ 0) × (get_elem? seats i ≡ some s)). m.others i s above t.1)
            (at_set seats 0 i first' s h))
            (λ (t : (i ≡ length front) × (next ≡ s)). let last : i ≡ n = t.0 ∙ long in
            subst (λ (u : Seat V E L B). (lock_of u ≡ lock) × (u.place.me ≡ (fresh (i + 1) 0 b, []))) t.1 (next_lock ∙ f.0, its ∙ ap (λ (k : ℕ). (fresh (k + 1) 0 b, [])) (sym last)))
            (at_end front next s i e);
      }

  -- a seat that has done nothing
  new_seat : (lock : TableId) (b : B) (n made : ℕ) (s : Seat V E L B) → lock_of s ≡ lock → s.place.me ≡ (fresh n made b, []) → IsSeat lock n s × IsNew b (seat_view s)
  new_seat lock b n made s of_lock is =
      let v : seat_view s ≡ fresh n made b = ap (λ (p : View E L B × List (ℕ × Option V)). p.0) is in (
        record {
          of_lock = of_lock;
          rests = (ap (λ (p : View E L B × List (ℕ × Option V)). p.1) is, ap (λ (u : View E L B). u.stage) v, ap (λ (u : View E L B). u.lives) v);
          numbered = ap (λ (u : View E L B). u.number) v;
        },
        record {
          badge_is = ap (λ (u : View E L B). u.badge) v;
          seen = ap (λ (u : View E L B). u.seen) v;
          own = ap (λ (u : View E L B). u.own) v;
          loan = ap (λ (u : View E L B). u.loan) v;
          holds = ap (λ (u : View E L B). u.holds) v;
          ended = ap (λ (u : View E L B). u.ended) v;
          note = ap (λ (u : View E L B). u.note) v;
        },
      )

  -- the first of the seats that are made
  pub first_made : (lock : TableId) (b : B) (n : ℕ) (seats : List (Seat V E L B)) (first : Seat V E L B) → 0 < length seats → AreMade lock b n seats → first ≡ slice_index_or seats 0 first → IsSeat lock 1 first × ((seat_view first).made ≡ n)
  first_made lock b n seats first some_made m is =
      let f = m.first first (at_index seats 0 first some_made ∙ ap some (sym is)) in
      ((new_seat lock b 1 n first f.0 f.1).0, ap (λ (p : View E L B × List (ℕ × Option V)). p.0.made) f.1)

  pub one_longer : (seats seats' : List (Seat V E L B)) (first' next : Seat V E L B) → seats' ≡ set seats 0 first' ++ next ∷ [] → length seats' ≡ length seats + 1
  one_longer seats seats' first' next is = ap length is ∙ (length-append (set seats 0 first') (next ∷ []) ∙ ap (λ n. n + 1) (length-set seats 0 first'))

  pub next_made : (lock : TableId) (b : B) (seats seats' : List (Seat V E L B)) (first first' next : Seat V E L B) → 0 < length seats → AreMade lock b (length seats) seats → first ≡ slice_index_or seats 0 first
      → (lock_of first' ≡ lock_of first) × (first'.place.me ≡ (makes (seat_view first), [])) → (lock_of next ≡ lock_of first) × (next.place.me ≡ (is_made (seat_view first), []))
      → seats' ≡ set seats 0 first' ++ next ∷ [] → AreMade lock b (length seats') seats'
  next_made lock b seats seats' first first' next some_made m was is next_is items =
      let more = more_made lock b (length seats) seats first first' next some_made m (at_index seats 0 first some_made ∙ ap some (sym was)) is.0 is.1 next_is.0 next_is.1 in
      subst (λ (n : ℕ). AreMade lock b n seats') (sym (one_longer seats seats' first' next items)) (subst (AreMade lock b (length seats + 1)) (sym items) more)

  made_at : (lock : TableId) (b : B) (n : ℕ) (seats : List (Seat V E L B)) → AreMade lock b n seats → (i : ℕ) (s : Seat V E L B) → get_elem? seats i ≡ some s → IsSeat lock (i + 1) s × IsNew b (seat_view s)
  made_at lock b n seats m zero s e = let f = m.first s e in new_seat lock b 1 n s f.0 f.1
  made_at lock b n seats m (suc i) s e = let f = m.others (suc i) s (omega arith) e in new_seat lock b (suc i + 1) 0 s f.0 f.1

  pub made_all : (lock : TableId) (b : B) (n : ℕ) (seats : List (Seat V E L B)) → 0 < n → AreMade lock b n seats → AreAll lock seats
  made_all lock b n seats some_made m = record {
    each = λ i s e. (made_at lock b n seats m i s (had seats i s e)).0;
    some = let c = m.count in omega arith;
    whole = λ s e. ap (λ (p : View E L B × List (ℕ × Option V)). p.0.made) (m.first s (had seats 0 s e)).1 ∙ sym m.count;
  }

  pub made_new : (lock : TableId) (b : B) (n : ℕ) (seats : List (Seat V E L B)) → AreMade lock b n seats → All (λ s. IsNew b (seat_view s)) seats
  made_new lock b n seats m k d lt = (made_at lock b n seats m k (slice_index_or seats k d) (at_index seats k d lt)).1

  pub none_gathered : (v : View E L B) → IsGathered {V = V} v [] v
  none_gathered v = record { same = refl; each = λ i s e. absurd (some-ne-none s (sym e)) }

  pub more_gathered : (before v : View E L B) (done : List (Seat V E L B)) (seat : Seat V E L B) → IsGathered before done v → IsGathered before (seat ∷ done) (takes_in v (seat_view seat))
  more_gathered before v done seat g =
      let entry : ℕ × List E × List E = ((seat_view seat).number, (seat_view seat).own, (seat_view seat).seen) in record {
        same = ap (λ (u : View E L B). record u { joined = v.joined ++ entry ∷ [] }) g.same;
        each = pick entry;
      }
    where
      pick : (entry : ℕ × List E × List E) → (i : ℕ) (s : Seat V E L B) → get_elem? (seat ∷ done) i ≡ some s → (k : ℕ) × (get_elem? (v.joined ++ ((seat_view seat).number, (seat_view seat).own, (seat_view seat).seen) ∷ []) k ≡ some ((seat_view s).number, (seat_view s).own, (seat_view s).seen))
      pick entry zero s e = (
        length v.joined,
        at_last v.joined ((seat_view seat).number, (seat_view seat).own, (seat_view seat).seen) ∙ ap (λ (u : Seat V E L B). some ((seat_view u).number, (seat_view u).own, (seat_view u).seen)) (some-injective seat s e),
      )
      pick entry (suc i) s e = let h = g.each i s e in (h.0, at_longer v.joined (((seat_view seat).number, (seat_view seat).own, (seat_view seat).seen) ∷ []) h.0 _ h.1)

  pub still_rests : (first first' : Seat V E L B) (x : View E L B) → first'.place.me ≡ (takes_in (seat_view first) x, []) → Rests first → Rests first'
  still_rests first first' x is rests = (
    ap (λ (p : View E L B × List (ℕ × Option V)). p.1) is,
    ap (λ (p : View E L B × List (ℕ × Option V)). p.0.stage) is ∙ rests.1,
    ap (λ (p : View E L B × List (ℕ × Option V)). p.0.lives) is ∙ rests.2,
  )

  -- the last seat that was left is taken in
  pub next_gathered : (before : View E L B) (all left left' done : List (Seat V E L B)) (first first' seat : Seat V E L B) → all ≡ left ++ done → left ≡ left' ++ seat ∷ [] → IsGathered before done (seat_view first)
      → first'.place.me ≡ (takes_in (seat_view first) (seat_view seat), []) → (done' : List (Seat V E L B)) × (all ≡ left' ++ done') × IsGathered before done' (seat_view first')
  next_gathered before all left left' done first first' seat is was g now = (
    seat ∷ done,
    is ∙ (ap (λ (l : List (Seat V E L B)). l ++ done) was ∙ append_assoc left' (seat ∷ []) done),
    subst (IsGathered before (seat ∷ done)) (sym (ap (λ (p : View E L B × List (ℕ × Option V)). p.0) now)) (more_gathered before (seat_view first) done seat g),
  )

  pub same_number : (before : View E L B) (done : List (Seat V E L B)) (after : View E L B) → IsGathered before done after → after.number ≡ before.number
  same_number before done after g = ap (λ (v : View E L B). v.number) g.same

  -- the seat that leaves the list at its end
  pub last_other : (lock : TableId) (all left left' done : List (Seat V E L B)) (seat : Seat V E L B) → AreOthers lock all → all ≡ left ++ done → left ≡ left' ++ seat ∷ [] → (lock_of seat ≡ lock) × Rests seat
  last_other lock all left left' done seat others is was =
      others (length left') seat (ap (λ (l : List (Seat V E L B)). get_elem? l (length left')) (is ∙ ap (λ (l : List (Seat V E L B)). l ++ done) was) ∙ at_middle left' seat done)

  pub apart : (lock : TableId) (seats : List (Seat V E L B)) (first : Seat V E L B) (others : List (Seat V E L B)) → AreAll lock seats → first ≡ slice_index_or seats 0 first → others ≡ remove seats 0 → seats ≡ first ∷ others
  apart lock [] first others all f o = let s = all.some in absurd (omega arith)
  apart lock (x ∷ xs) first others all f o = λ i. sym f i ∷ sym o i

  pub are_others : (lock : TableId) (first : Seat V E L B) (others : List (Seat V E L B)) → AreAll lock (first ∷ others) → AreOthers lock others
  are_others lock first others all i s e = let t = all.each (suc i) s (got others i s e) in (t.of_lock, t.rests)

  pub covered : (lock : TableId) (first : Seat V E L B) (others : List (Seat V E L B)) (w : View E L B) → AreAll lock (first ∷ others) → IsGathered (seat_view first) others w
      → (n : ℕ) → 1 < n → n ≤ w.made → (i : ℕ) × (p : ℕ × List E × List E) × (get_elem? w.joined i ≡ some p) × (p.0 ≡ n)
  covered lock first others w all g zero more le = absurd (omega arith)
  covered lock first others w all g (suc zero) more le = absurd (omega arith)
  covered lock first others w all g (suc (suc j)) more le =
      let made : w.made ≡ length (first ∷ others) = ap (λ (u : View E L B). u.made) g.same ∙ all.whole first refl in
      let seat : Seat V E L B = slice_index_or others j first in
      let at = at_index others j first (omega arith) in
      let k = g.each j seat at in
      let number = (all.each (suc j) seat (got others j seat at)).numbered in
      (k.0, ((seat_view seat).number, (seat_view seat).own, (seat_view seat).seen), k.1, number ∙ (omega arith))

module _ {V E L B : Type 0} (history : V → List E) (by : E → ℕ) where
  pub all_seen : (first : Seat V E L B) (others : List (Seat V E L B)) (w : View E L B) (x : V) → IsGathered (seat_view first) others w → IsLeftBy history by w x → All (λ s. StartsWith (history x) (seat_view s).seen) (first ∷ others)
  all_seen first others w x g told zero d lt = subst (StartsWith (history x)) (ap (λ (u : View E L B). u.seen) g.same) told.seen
  all_seen first others w x g told (suc j) d lt = let k = g.each j (slice_index_or others j d) (at_index others j d (omega arith)) in (told.joined k.0 _ k.1).1

  pub all_own : (first : Seat V E L B) (others : List (Seat V E L B)) (w : View E L B) (x : V) → IsGathered (seat_view first) others w → IsLeftBy history by w x
      → All (λ s. (seat_view s).own ≡ own_of by (seat_view s).number (history x)) (first ∷ others)
  all_own first others w x g told zero d lt = subst (λ (u : View E L B). u.own ≡ own_of by u.number (history x)) (g.same) told.own
  all_own first others w x g told (suc j) d lt = let k = g.each j (slice_index_or others j d) (at_index others j d (omega arith)) in (told.joined k.0 _ k.1).0

  pub all_told : (lock : TableId) (first : Seat V E L B) (others : List (Seat V E L B)) (w : View E L B) (x : V) → AreAll lock (first ∷ others) → IsGathered (seat_view first) others w → IsLeftBy history by w x
      → All (λ e. by e ≤ length (first ∷ others)) (history x)
  all_told lock first others w x all g told =
      let made : w.made ≡ length (first ∷ others) = ap (λ (u : View E L B). u.made) g.same ∙ all.whole first refl in
      bounded by (length (first ∷ others)) (history x) (λ n more. told.no_others n (omega arith))
