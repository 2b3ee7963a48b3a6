-- The laws of one token, of a token that opens a nesting, and of nothing.
use Rattle.std.proofs.Common.{◌≡◌, ℕ, zero, suc, true, List, [], ◌∷◌, ◌++◌, Option, Some, None, refl}
use Rattle.phrases.specs.Laws.{Front, Opened, Lawful}
use Rattle.phrases.specs.Reading.{Read, Stuck, read_token, deep_token, read_one, read_opener, read_nothing}
use Rattle.phrases.specs.Sets.{has, token_sets, nothing_sets}
use Rattle.phrases.specs.Spelling.{One, Opener, OpenerOpens, OneOpens, Nothing}
use Rattle.phrases.specs.declared.fault.Fault.TheVariants.{Syntax}

module _ {T A : Type 0} (class : T → ℕ) (kind : T → Option A) (codes : List ℕ)
    (knows : (t : T) (a : A) → kind t ≡ Some a → has codes (class t) ≡ true) (only : (t : T) → has codes (class t) ≡ true → kind t ≡ None → ⊥)
    (sample : T) (value : A) (is_one : kind sample ≡ Some value) where
  one-of : (t : T) (a : A) → kind t ≡ Some a → One kind (t ∷ []) a
  one-of t a e = record { token = t; alone = refl; is = e }

  one-read : (t : T) (ts : List T) (o : Option A) → kind t ≡ o → Front (One kind) (One kind) OneOpens (read_one kind) (t ∷ ts) (read_token o t ts)
  one-read t ts (Some a) e = record { taken = t ∷ []; split = refl; said = one-of t a e; local = λ s w z k. rw e refl; dry = tt }
  one-read t ts None e = record {
    taken = [];
    split = refl;
    said = (sample ∷ [], value, one-of sample value is_one);
    local = λ s w z k. let same : s ≡ t = cc in rw (same, e) refl;
    dry = refl;
  }

  one-front : (ts : List T) → Front (One kind) (One kind) OneOpens (read_one kind) ts (read_one kind ts)
  one-front [] = record { taken = []; split = refl; said = (sample ∷ [], value, one-of sample value is_one); local = λ s w z k. absurd (cc); dry = refl }
  one-front (t ∷ ts) = one-read t ts (kind t) refl

  one-again : (x : List T) (a : A) (y : List T) → One kind x a → read_one kind (x ++ y) ≡ Read a y
  one-again x a y one = rw (one.alone, one.is) refl

  one-begins : (t : T) (x : List T) (a : A) → One kind (t ∷ x) a → has codes (class t) ≡ true
  one-begins t x a one = let same : t ≡ one.token = cc in rw same (knows one.token a one.is)

  one-empty : (a : A) → One kind [] a → ⊥
  one-empty a one = cc

  one-accepts : (t : T) (y : List T) (o : Option A) → kind t ≡ o → has codes (class t) ≡ true → read_token o t y ≡ Stuck Syntax (t ∷ y) → ⊥
  one-accepts t y (Some a) e h k = cc
  one-accepts t y None e h k = only t h e

  deep-accepts : (t : T) (y : List T) (o : Option A) → kind t ≡ o → has codes (class t) ≡ true → deep_token o t y ≡ Stuck Syntax (t ∷ y) → ⊥
  deep-accepts t y (Some a) e h k = cc
  deep-accepts t y None e h k = only t h e

  pub one-lawful : Lawful class (One kind) (One kind) OneOpens (read_one kind) (token_sets codes)
  one-lawful = record {
    front = one-front;
    again = λ x a y one e. one-again x a y one;
    deep = λ x o. absurd o;
    wider = λ x a one. one;
    some = (sample ∷ [], value, one-of sample value is_one);
    begins = one-begins;
    empty = λ a one. absurd (one-empty a one);
    opens = λ t x o. absurd o;
    accepts = λ t y h k. one-accepts t y (kind t) refl h k;
  }

  deep-read : (t : T) (ts : List T) (o : Option A) → kind t ≡ o → Front (Opener zero kind) (One kind) (OpenerOpens zero kind) (read_opener zero kind) (t ∷ ts) (deep_token o t ts)
  deep-read t ts (Some a) e = record {
    taken = [];
    split = refl;
    said = ((sample ∷ [], value, one-of sample value is_one), (t, ts, refl, (a, one-of t a e)));
    local = λ s w z k. let same : s ≡ t = cc in rw (same, e) refl;
    dry = tt;
  }
  deep-read t ts None e = record {
    taken = [];
    split = refl;
    said = (sample ∷ [], value, one-of sample value is_one);
    local = λ s w z k. let same : s ≡ t = cc in rw (same, e) refl;
    dry = refl;
  }

  deep-front : (ts : List T) → Front (Opener zero kind) (One kind) (OpenerOpens zero kind) (read_opener zero kind) ts (read_opener zero kind ts)
  deep-front [] = record { taken = []; split = refl; said = (sample ∷ [], value, one-of sample value is_one); local = λ s w z k. absurd (cc); dry = refl }
  deep-front (t ∷ ts) = deep-read t ts (kind t) refl

  deep-opened : (x : List T) → OpenerOpens zero kind x → Opened (read_opener zero kind) x
  deep-opened x (a, one) = record { before = []; opener = one.token; split = one.alone; is_deep = λ y. rw one.is refl }

  pub opener-lawful : (room : ℕ) → Lawful class (Opener room kind) (Opener (suc room) kind) (OpenerOpens room kind) (read_opener room kind) (token_sets codes)
  opener-lawful zero = record {
    front = deep-front;
    again = λ x a y h e. absurd h;
    deep = deep-opened;
    wider = λ x a h. absurd h;
    some = (sample ∷ [], value, one-of sample value is_one);
    begins = one-begins;
    empty = λ a one. absurd (one-empty a one);
    opens = λ t x o. one-begins t x o.0 o.1;
    accepts = λ t y h k. deep-accepts t y (kind t) refl h k;
  }
  opener-lawful (suc room) = one-lawful

pub nothing-lawful : {T A : Type 0} (class : T → ℕ) (n : A) → Lawful {T = T} class (Nothing n) (Nothing n) OneOpens (read_nothing n) nothing_sets
nothing-lawful class n = record {
  front = λ ts. record { taken = []; split = refl; said = (refl, refl); local = λ t w z e. refl; dry = tt };
  again = λ x a y h e. rw (h.0, h.1) refl;
  deep = λ x o. absurd o;
  wider = λ x a h. h;
  some = ([], n, (refl, refl));
  begins = λ t x a h. absurd (cc);
  empty = λ a h. refl;
  opens = λ t x o. absurd o;
  accepts = λ t y h k. absurd cc;
}
