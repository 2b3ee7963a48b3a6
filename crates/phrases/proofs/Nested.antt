-- A grammar that is made anew for each room is lawful, if each layer keeps the laws.
use Rattle.std.proofs.Common.{◌≡◌, ℕ, zero, suc, Bool, true, false, cond, List, [], ◌∷◌, ◌++◌, inr, refl}
use Rattle.phrases.specs.Laws.{Front, ReadOrDeep, Laws}
use Rattle.phrases.specs.Phrases.{Phrase}
use Rattle.phrases.specs.Nesting.{never, nest}
use Rattle.phrases.specs.Reading.{Stuck}
use Rattle.phrases.specs.Sets.{has, Sets}
use Rattle.phrases.specs.declared.fault.Fault.TheVariants.{Syntax, TooDeep}

never_opens : {T : Type 0} (class : T → ℕ) (first : List ℕ) (t : T) (x : List T) → (u : T) × (t ∷ x ≡ u ∷ []) × (has first (class u) ≡ true) → has first (class t) ≡ true
never_opens class first t x (u, e, h) = let same : t ≡ u = cc in rw same h

module _ {T A : Type 0} (class : T → ℕ) (s : Sets) (whole : s.nullable ≡ false) where
  abbrev none : Phrase T A
  none = never class s.first

  -- how a phrase begins
  pub record Start (g : Phrase T A) : Type 0 where
    pub begins : (t : T) (x : List T) (a : A) → g.Spells (t ∷ x) a → has s.first (class t) ≡ true
    pub empty : (a : A) → g.Spells [] a → s.nullable ≡ true

  never_read : (P+ : List T → A → Type 0) (t : T) (ts : List T) → ((x : List T) × (a : A) × P+ x a) → (b : Bool) → has s.first (class t) ≡ b
      → Front none.Spells P+ none.Opens none.read (t ∷ ts) (cond b (Stuck TooDeep (t ∷ ts)) (Stuck Syntax (t ∷ ts)))
  never_read P+ t ts some true e = record { taken = []; split = refl; said = (some, (t, ts, refl, (t, refl, e))); local = λ u w z k. let same : u ≡ t = cc in rw (same, e) refl; dry = tt }
  never_read P+ t ts some false e = record { taken = []; split = refl; said = some; local = λ u w z k. let same : u ≡ t = cc in rw (same, e) refl; dry = refl }

  never_front : (P+ : List T → A → Type 0) (ts : List T) → ((x : List T) × (a : A) × P+ x a) → Front none.Spells P+ none.Opens none.read ts (none.read ts)
  never_front P+ [] some = record { taken = []; split = refl; said = some; local = λ t w z k. absurd (cc); dry = refl }
  never_front P+ (t ∷ ts) some = never_read P+ t ts some (has s.first (class t)) refl

  never_accepts : (t : T) (y : List T) → has s.first (class t) ≡ true → none.read (t ∷ y) ≡ Stuck Syntax (t ∷ y) → ⊥
  never_accepts t y h k = let deep : none.read (t ∷ y) ≡ Stuck TooDeep (t ∷ y) = rw h refl in cc

  never_wide : (k : Phrase T A) → Start k → (x : List T) (a : A) (y : List T) → k.Spells x a → ReadOrDeep (none.read (x ++ y)) a y
  never_wide k st [] a y h = absurd (cc (st.empty a h, whole))
  never_wide k st (t ∷ x) a y h = rw (st.begins t x a h) (inr tt)

  pub never_laws : (g+ k : Phrase T A) → ((x : List T) × (a : A) × g+.Spells x a) → Start g+ → Start k → Laws class none g+ k s
  never_laws g+ k some st sk = record {
    law = record {
      front = λ ts. never_front g+.Spells ts some;
      again = λ x a y h e. absurd h;
      deep = λ x o. record { before = []; opener = o.0; split = o.1; is_deep = λ y. rw o.2 refl };
      wider = λ x a h. absurd h;
      some = some;
      begins = st.begins;
      empty = st.empty;
      opens = λ t x o. never_opens class s.first t x o;
      accepts = never_accepts;
    };
    wide = record { wide = λ x a y h e. never_wide k sk x a y h; begins = sk.begins; empty = sk.empty };
  }

  -- with no room nothing is spelled, so any reader reads it
  no_room : {g g+ k : Phrase T A} → Laws class g g+ k s → Laws class g g+ none s
  no_room l = record { law = l.law; wide = record { wide = λ x a y h e. absurd h; begins = λ t x a h. absurd h; empty = λ a h. absurd h } }

  module _ (over : ℕ → Phrase T A → Phrase T A) (sample : T) (known : has s.first (class sample) ≡ true)
      (some : (room : ℕ) (g : Phrase T A) → (x : List T) × (a : A) × (over room g).Spells x a)
      (layer : (room n : ℕ) (i i+ k : Phrase T A) → Laws class i i+ k s → Laws class (over room i) (over (suc room) i+) (over n k) s) where
    abbrev within : ℕ → Phrase T A
    within n = nest class s.first over n

    -- any phrase of which something is known
    abbrev one : A → Phrase T A
    one a = record { Spells = λ x b. (x ≡ sample ∷ []) × (b ≡ a); Opens = λ x. ⊥; read = none.read }

    one_start : (a : A) → Start (one a)
    one_start a = record { begins = λ t x b h. let same : t ≡ sample = cc (h.0) in rw same known; empty = λ b h. absurd (cc (h.0)) }

    starts_within : (n : ℕ) → Start (within n)
    unfolding nest
    starts_within zero = record { begins = λ t x a h. absurd h; empty = λ a h. absurd h }
    starts_within (suc n) =
        let (x, a, h) = some 0 none in
        let l = layer 0 n none (one a) (within n) (never_laws (one a) (within n) (sample ∷ [], a, (refl, refl)) (one_start a) (starts_within n)) in
        record { begins = l.wide.begins; empty = l.wide.empty }

    some_within : (n : ℕ) → (x : List T) × (a : A) × (within (suc n)).Spells x a
    unfolding nest
    some_within n = some n (within n)

    -- what stands in a nesting is lawful, whatever the room
    pub nest_laws : (room n : ℕ) → Laws class (within room) (within (suc room)) (within n) s
    unfolding nest
    nest_laws zero n = never_laws (within 1) (within n) (some_within 0) (starts_within 1) (starts_within n)
    nest_laws (suc room) zero = no_room (layer room 0 (within room) (within (suc room)) none (nest_laws room 0))
    nest_laws (suc room) (suc n) = layer room n (within room) (within (suc room)) (within n) (nest_laws room n)
