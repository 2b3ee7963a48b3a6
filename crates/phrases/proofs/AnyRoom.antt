-- With any room: what is spelled is read, or stops at a nesting too many.
use Rattle.std.proofs.Common.{◌≡◌, ℕ, zero, suc, true, false, cond, not, List, [], ◌∷◌, ◌++◌, Option, Some, inl, inr, refl, ap, ◌∙◌, append_assoc}
use Rattle.phrases.specs.Laws.{ReadOrDeep, Wide}
use Rattle.phrases.specs.Reading.{Outcome, Read, Stuck, after, read_one, read_opener, read_nothing, read_then, read_or, read_many}
use Rattle.phrases.specs.Sets.{has, apart, starts, Sets, ends, token_sets, nothing_sets, then_sets, or_sets, many_sets}
use Rattle.phrases.specs.Spelling.{One, Opener, Nothing, Then, Or, Many}
use Rattle.phrases.specs.declared.fault.Fault.TheVariants.{Syntax, TooDeep}
use Rattle.phrases.proofs.Repeated.{cons}
use Rattle.phrases.proofs.Sets.{apart_has, ends_left, ends_right, has_in_left, has_in_right, not_true}

module _ {T A : Type 0} (class : T → ℕ) (kind : T → Option A) (codes : List ℕ) (knows : (t : T) (a : A) → kind t ≡ Some a → has codes (class t) ≡ true) where
  begins : (t : T) (x : List T) (a : A) → One kind (t ∷ x) a → has codes (class t) ≡ true
  begins t x a one = let same : t ≡ one.token = cc in rw same (knows one.token a one.is)

  empty : (a : A) → One kind [] a → ⊥
  empty a one = cc

  pub one-wide : Wide class (One kind) (read_one kind) (token_sets codes)
  one-wide = record {
    wide = λ x a y one e. inl (rw (one.alone, one.is) refl);
    begins = begins;
    empty = λ a one. absurd (empty a one);
  }

  deep : (x : List T) (a : A) (y : List T) → One kind x a → ReadOrDeep (read_opener zero kind (x ++ y)) a y
  deep x a y one = rw (one.alone, one.is) (inr tt)

  pub opener-wide : (room n : ℕ) → Wide class (Opener n kind) (read_opener room kind) (token_sets codes)
  opener-wide room zero = record { wide = λ x a y h e. absurd h; begins = λ t x a h. absurd h; empty = λ a h. absurd h }
  opener-wide zero (suc n) = record { wide = λ x a y one e. deep x a y one; begins = begins; empty = λ a one. absurd (empty a one) }
  opener-wide (suc room) (suc n) = one-wide

pub nothing-wide : {T A : Type 0} (class : T → ℕ) (n : A) → Wide {T = T} class (Nothing n) (read_nothing n) nothing_sets
nothing-wide class n = record {
  wide = λ x a y h e. inl (rw (h.0, h.1) refl);
  begins = λ t x a h. absurd (cc);
  empty = λ a h. refl;
}

pub after-deep : {T A B : Type 0} (o : Outcome T A) (a : A) (y : List T) (k : A → List T → Outcome T B) (b : B) (z : List T) → ReadOrDeep o a y → ReadOrDeep (k a y) b z → ReadOrDeep (after o k) b z
after-deep o a y k b z (inl e) h = rw e h
after-deep (Read a' y') a y k b z (inr d) h = absurd d
after-deep (Stuck Syntax y') a y k b z (inr d) h = absurd d
after-deep (Stuck TooDeep y') a y k b z (inr d) h = inr tt

module _ {T A B C : Type 0} (class : T → ℕ)
    (P : List T → A → Type 0) (p : List T → Outcome T A) (sp : Sets) (lp : Wide class P p sp)
    (Q : A → List T → B → Type 0) (q : A → List T → Outcome T B) (sq : Sets) (lq : (a : A) → Wide class (Q a) (q a) sq)
    (f : A → B → C) (whole : sp.nullable ≡ false) (aside : apart sq.first sp.more ≡ true) where
  gap : (back y : List T) (a : A) (b : B) → Q a back b → ends class (then_sets sp sq).more y ≡ true → ends class sp.more (back ++ y) ≡ true
  gap [] y a b h e = let n : sq.nullable ≡ true = (lq a).empty b h in ends_right class sq.more sp.more y (rw n at e)
  gap (t ∷ back) y a b h e = ap not (apart_has sq.first sp.more (class t) aside ((lq a).begins t back b h))

  then-read : (x : List T) (c : C) (y : List T) → Then P Q f x c → ends class (then_sets sp sq).more y ≡ true → ReadOrDeep (read_then p q f (x ++ y)) c y
  then-read x c y th e =
      let e1 = lp.wide th.front th.one (th.back ++ y) th.first (gap th.back y th.one th.two th.second e) in
      let e2 = (lq th.one).wide th.back th.two y th.second (ends_left class sq.more (cond sq.nullable sp.more []) y e) in
      let k : A → List T → Outcome T C = λ a z. after (q a z) (λ b w. Read (f a b) w) in
      rw (th.split, th.value, append_assoc th.front th.back y)
      (after-deep (p (th.front ++ (th.back ++ y))) th.one (th.back ++ y) k (f th.one th.two) y e1
      (after-deep (q th.one (th.back ++ y)) th.two y (λ b w. Read (f th.one b) w) (f th.one th.two) y e2 (inl refl)))

  then-head : (t : T) (x front back : List T) (a : A) → t ∷ x ≡ front ++ back → P front a → has sp.first (class t) ≡ true
  then-head t x [] back a e h = absurd (cc (lp.empty a h, whole))
  then-head t x (s ∷ front) back a e h = let same : t ≡ s = cc in rw same (lp.begins s front a h)

  then-empty : (front back : List T) (a : A) → [] ≡ front ++ back → P front a → ⊥
  then-empty [] back a e h = cc (lp.empty a h, whole)
  then-empty (s ∷ front) back a e h = cc

  pub then-wide : Wide class (Then P Q f) (read_then p q f) (then_sets sp sq)
  then-wide = record {
    wide = then-read;
    begins = λ t x c th. then-head t x th.front th.back th.one th.split th.first;
    empty = λ c th. absurd (then-empty th.front th.back th.one th.split th.first);
  }

module _ {T A : Type 0} (class : T → ℕ)
    (P : List T → A → Type 0) (p : List T → Outcome T A) (sp : Sets) (lp : Wide class P p sp)
    (Q : List T → A → Type 0) (q : List T → Outcome T A) (sq : Sets) (lq : Wide class Q q sq)
    (whole : sp.nullable ≡ false) (aside : apart sq.first sp.first ≡ true) where
  takes-left : (x : List T) (a : A) (y : List T) → P x a → starts class sp.first (x ++ y) ≡ true
  takes-left [] a y h = absurd (cc (lp.empty a h, whole))
  takes-left (t ∷ x) a y h = lp.begins t x a h

  ends-starts : (s : List ℕ) (y : List T) → ends class s y ≡ true → starts class s y ≡ false
  ends-starts s [] e = refl
  ends-starts s (t ∷ y) e = not_true (has s (class t)) e

  takes-right : (x : List T) (a : A) (y : List T) → Q x a → ends class (or_sets sp sq).more y ≡ true → starts class sp.first (x ++ y) ≡ false
  takes-right [] a y h e =
      let n : sq.nullable ≡ true = lq.empty a h in
      ends-starts sp.first y (ends_right class sq.more sp.first y (ends_right class sp.more (sq.more ++ sp.first) y (rw n at e)))
  takes-right (t ∷ x) a y h e = apart_has sq.first sp.first (class t) aside (lq.begins t x a h)

  or-read : (x : List T) (a : A) (y : List T) → Or P Q x a → ends class (or_sets sp sq).more y ≡ true → ReadOrDeep (read_or class sp.first p q (x ++ y)) a y
  or-read x a y (inl h) e = rw (takes-left x a y h) (lp.wide x a y h (ends_left class sp.more (sq.more ++ cond sq.nullable sp.first []) y e))
  or-read x a y (inr h) e =
      rw (takes-right x a y h e) (lq.wide x a y h (ends_left class sq.more (cond sq.nullable sp.first []) y (ends_right class sp.more (sq.more ++ cond sq.nullable sp.first []) y e)))

  pub or-wide : Wide class (Or P Q) (read_or class sp.first p q) (or_sets sp sq)
  or-wide = record {
    wide = or-read;
    begins = λ t x a h. elim h [ inl k ↦ has_in_left sp.first sq.first (class t) (lp.begins t x a k) | inr k ↦ has_in_right sp.first sq.first (class t) (lq.begins t x a k) ];
    empty = λ a h. elim h [ inl k ↦ absurd (cc (lp.empty a k, whole)) | inr k ↦ lq.empty a k ];
  }

module _ {T A : Type 0} (class : T → ℕ)
    (P : List T → A → Type 0) (p : List T → Outcome T A) (sp : Sets) (lp : Wide class P p sp)
    (unfolds : (ts : List T) → read_many class sp.first p ts ≡ cond (starts class sp.first ts) (read_then p (λ a. read_many class sp.first p) cons ts) (Read [] ts))
    (whole : sp.nullable ≡ false) (aside : apart sp.first sp.more ≡ true) where
  many-begins : (t : T) (x : List T) (vs : List A) → Many P (t ∷ x) vs → has sp.first (class t) ≡ true
  many-begins t x [] h = absurd (cc)
  many-begins t x (a ∷ vs) ([], z, e, h, m) = absurd (cc (lp.empty a h, whole))
  many-begins t x (a ∷ vs) (s ∷ y, z, e, h, m) = let same : t ≡ s = cc in rw same (lp.begins s y a h)

  gap-many : (back y : List T) (vs : List A) → Many P back vs → ends class (many_sets sp).more y ≡ true → ends class sp.more (back ++ y) ≡ true
  gap-many [] y vs m e = ends_left class sp.more sp.first y e
  gap-many (t ∷ back) y vs m e = ap not (apart_has sp.first sp.more (class t) aside (many-begins t back vs m))

  starts-taken : (x : List T) (a : A) (y : List T) → P x a → starts class sp.first (x ++ y) ≡ true
  starts-taken [] a y h = absurd (cc (lp.empty a h, whole))
  starts-taken (t ∷ x) a y h = lp.begins t x a h

  starts-none : (y : List T) → ends class (many_sets sp).more y ≡ true → starts class sp.first y ≡ false
  starts-none [] e = refl
  starts-none (t ∷ y) e = not_true (has sp.first (class t)) (ends_right class sp.more sp.first (t ∷ y) e)

  many-read : (vs : List A) (x y : List T) → Many P x vs → ends class (many_sets sp).more y ≡ true → ReadOrDeep (read_many class sp.first p (x ++ y)) vs y
  many-read [] x y h e = rw h (inl (unfolds y ∙ rw (starts-none y e) refl))
  many-read (a ∷ vs) x y (x1, x2, s, h, m) e =
      let k : A → List T → Outcome T (List A) = λ a z. after (read_many class sp.first p z) (λ us w. Read (cons a us) w) in
      rw (s, append_assoc x1 x2 y, unfolds (x1 ++ (x2 ++ y)), starts-taken x1 a (x2 ++ y) h)
      (after-deep (p (x1 ++ (x2 ++ y))) a (x2 ++ y) k (a ∷ vs) y (lp.wide x1 a (x2 ++ y) h (gap-many x2 y vs m e))
      (after-deep (read_many class sp.first p (x2 ++ y)) vs y (λ us w. Read (cons a us) w) (a ∷ vs) y (many-read vs x2 y m e) (inl refl)))

  pub many-wide : Wide class (Many P) (read_many class sp.first p) (many_sets sp)
  many-wide = record {
    wide = λ x vs y m e. many-read vs x y m e;
    begins = many-begins;
    empty = λ vs m. refl;
  }
