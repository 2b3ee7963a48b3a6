-- The laws of one phrase or another, told apart by the first token.
use Rattle.std.proofs.Common.{◌≡◌, ℕ, Bool, true, false, cond, List, [], ◌∷◌, ◌++◌, inl, inr, refl, ap, subst, ◌∙◌}
use Rattle.phrases.specs.Laws.{Said, Front, Opened, Lawful, Dry}
use Rattle.phrases.specs.Reading.{Outcome, Read, Stuck, read_or, rest}
use Rattle.phrases.specs.Sets.{has, apart, starts, Sets, ends, or_sets}
use Rattle.phrases.specs.Spelling.{Or, OrOpens}
use Rattle.phrases.specs.declared.fault.Fault.TheVariants.{Syntax, TooDeep}
use Rattle.phrases.proofs.Sets.{apart_has, ends_left, ends_right, has_in_left, has_in_right, has_other, not_true}

pub starts-on : {T : Type 0} (class : T → ℕ) (s : List ℕ) (ts x : List T) (t : T) (w z : List T) → ts ≡ x ++ t ∷ w → starts class s (x ++ t ∷ z) ≡ starts class s ts
starts-on class s ts [] t w z e = rw e refl
starts-on class s ts (u ∷ x) t w z e = rw e refl

pub starts-opened : {T : Type 0} (class : T → ℕ) (s : List ℕ) (b : Bool) (x before : List T) (t : T) (y : List T) → x ≡ before ++ t ∷ [] → ((u : T) (v : List T) → x ≡ u ∷ v → has s (class u) ≡ b) → starts class s (before ++ t ∷ y) ≡ b
starts-opened class s b x [] t y e h = h t [] e
starts-opened class s b x (u ∷ before) t y e h = h u (before ++ t ∷ []) e

module _ {T A : Type 0} (class : T → ℕ)
    (P P+ : List T → A → Type 0) (OP : List T → Type 0) (p : List T → Outcome T A) (sp : Sets) (lp : Lawful class P P+ OP p sp)
    (Q Q+ : List T → A → Type 0) (OQ : List T → Type 0) (q : List T → Outcome T A) (sq : Sets) (lq : Lawful class Q Q+ OQ q sq)
    (whole : sp.nullable ≡ false) (aside : apart sq.first sp.first ≡ true) where
  said-left : (o : Outcome T A) (x : List T) → Said P P+ OP o x → Said (Or P Q) (Or P+ Q+) (OrOpens OP OQ) o x
  said-left (Read a y) x h = inl h
  said-left (Stuck Syntax y) x (z, a, h) = (z, a, inl h)
  said-left (Stuck TooDeep y) x h = let (viable, cut) = h in let (z, a, k) = viable in let (t, w, e, o) = cut in ((z, a, inl k), (t, w, e, inl o))

  said-right : (o : Outcome T A) (x : List T) → Said Q Q+ OQ o x → Said (Or P Q) (Or P+ Q+) (OrOpens OP OQ) o x
  said-right (Read a y) x h = inr h
  said-right (Stuck Syntax y) x (z, a, h) = (z, a, inr h)
  said-right (Stuck TooDeep y) x h = let (viable, cut) = h in let (z, a, k) = viable in let (t, w, e, o) = cut in ((z, a, inr k), (t, w, e, inr o))

  -- with no token taken, the phrase could not have stopped
  dry-left : (ts : List T) (o : Outcome T A) → p ts ≡ o → starts class sp.first ts ≡ true → (x : List T) → ts ≡ x ++ rest o → Dry p o x → Dry (read_or class sp.first p q) o x
  dry-left ts (Read a y) e b x s d = tt
  dry-left ts (Stuck TooDeep y) e b x s d = tt
  dry-left [] (Stuck Syntax y) e b [] s d = absurd (cc)
  dry-left (t ∷ ts) (Stuck Syntax y) e b [] s d = absurd (lp.accepts t ts b (e ∙ cc))
  dry-left ts (Stuck Syntax y) e b (t ∷ x) s d = let same : has sp.first (class t) ≡ true = rw s at b in rw same d

  dry-right : (ts : List T) (o : Outcome T A) → starts class sp.first ts ≡ false → (x : List T) → ts ≡ x ++ rest o → Dry q o x → Dry (read_or class sp.first p q) o x
  dry-right ts (Read a y) b x s d = tt
  dry-right ts (Stuck TooDeep y) b x s d = tt
  dry-right ts (Stuck Syntax y) b [] s d = d
  dry-right ts (Stuck Syntax y) b (t ∷ x) s d = let same : has sp.first (class t) ≡ false = rw s at b in rw same d

  or-left : (ts : List T) (o : Outcome T A) → p ts ≡ o → starts class sp.first ts ≡ true → Front P P+ OP p ts o → Front (Or P Q) (Or P+ Q+) (OrOpens OP OQ) (read_or class sp.first p q) ts o
  or-left ts o pe b fr = record {
    dry = dry-left ts o pe b fr.taken fr.split fr.dry;
    taken = fr.taken;
    split = fr.split;
    said = said-left o fr.taken fr.said;
    local = λ t w z e. rw (starts-on class sp.first ts fr.taken t w z (fr.split ∙ ap (λ (v : List T). fr.taken ++ v) e), b) (fr.local t w z e);
  }

  or-right : (ts : List T) (o : Outcome T A) → starts class sp.first ts ≡ false → Front Q Q+ OQ q ts o → Front (Or P Q) (Or P+ Q+) (OrOpens OP OQ) (read_or class sp.first p q) ts o
  or-right ts o b fr = record {
    dry = dry-right ts o b fr.taken fr.split fr.dry;
    taken = fr.taken;
    split = fr.split;
    said = said-right o fr.taken fr.said;
    local = λ t w z e. rw (starts-on class sp.first ts fr.taken t w z (fr.split ∙ ap (λ (v : List T). fr.taken ++ v) e), b) (fr.local t w z e);
  }

  or-front : (ts : List T) (b : Bool) → starts class sp.first ts ≡ b → Front (Or P Q) (Or P+ Q+) (OrOpens OP OQ) (read_or class sp.first p q) ts (cond b (p ts) (q ts))
  or-front ts true e = or-left ts (p ts) refl e (lp.front ts)
  or-front ts false e = or-right ts (q ts) e (lq.front ts)

  takes-left : (x : List T) (a : A) (y : List T) → P x a → starts class sp.first (x ++ y) ≡ true
  takes-left [] a y h = absurd (cc (lp.empty a (lp.wider [] a h), whole))
  takes-left (t ∷ x) a y h = lp.begins t x a (lp.wider (t ∷ x) a h)

  ends-starts : (s : List ℕ) (y : List T) → ends class s y ≡ true → starts class s y ≡ false
  ends-starts s [] e = refl
  ends-starts s (t ∷ y) e = not_true (has s (class t)) e

  takes-right : (x : List T) (a : A) (y : List T) → Q x a → ends class (or_sets sp sq).more y ≡ true → starts class sp.first (x ++ y) ≡ false
  takes-right [] a y h e =
      let n : sq.nullable ≡ true = lq.empty a (lq.wider [] a h) in
      ends-starts sp.first y (ends_right class sq.more sp.first y (ends_right class sp.more (sq.more ++ sp.first) y (rw n at e)))
  takes-right (t ∷ x) a y h e = apart_has sq.first sp.first (class t) aside (lq.begins t x a (lq.wider (t ∷ x) a h))

  or-again : (x : List T) (a : A) (y : List T) → Or P Q x a → ends class (or_sets sp sq).more y ≡ true → read_or class sp.first p q (x ++ y) ≡ Read a y
  or-again x a y (inl h) e = rw (takes-left x a y h) (lp.again x a y h (ends_left class sp.more (sq.more ++ cond sq.nullable sp.first []) y e))
  or-again x a y (inr h) e =
      rw (takes-right x a y h e) (lq.again x a y h (ends_left class sq.more (cond sq.nullable sp.first []) y (ends_right class sp.more (sq.more ++ cond sq.nullable sp.first []) y e)))

  or-deep : (x : List T) → OrOpens OP OQ x → Opened (read_or class sp.first p q) x
  or-deep x (inl o) =
      let d = lp.deep x o in
      record {
        before = d.before;
        opener = d.opener;
        split = d.split;
        is_deep = λ y. rw (starts-opened class sp.first true x d.before d.opener y d.split (λ u v e. lp.opens u v (subst OP e o))) (d.is_deep y);
      }
  or-deep x (inr o) =
      let d = lq.deep x o in
      record {
        before = d.before;
        opener = d.opener;
        split = d.split;
        is_deep = λ y. rw (starts-opened class sp.first false x d.before d.opener y d.split (λ u v e. apart_has sq.first sp.first (class u) aside (lq.opens u v (subst OQ e o)))) (d.is_deep y);
      }

  accepts-by : (t : T) (y : List T) (b : Bool) → has sp.first (class t) ≡ b → has (sp.first ++ sq.first) (class t) ≡ true → cond b (p (t ∷ y)) (q (t ∷ y)) ≡ Stuck Syntax (t ∷ y) → ⊥
  accepts-by t y true e h k = lp.accepts t y e k
  accepts-by t y false e h k = lq.accepts t y (has_other sp.first sq.first (class t) h e) k

  pub or-lawful : Lawful class (Or P Q) (Or P+ Q+) (OrOpens OP OQ) (read_or class sp.first p q) (or_sets sp sq)
  or-lawful = record {
    front = λ ts. or-front ts (starts class sp.first ts) refl;
    again = or-again;
    deep = or-deep;
    wider = λ x a h. elim h [ inl k ↦ inl (lp.wider x a k) | inr k ↦ inr (lq.wider x a k) ];
    some = let (x, a, h) = lp.some in (x, a, inl h);
    begins = λ t x a h. elim h [ inl k ↦ has_in_left sp.first sq.first (class t) (lp.begins t x a k) | inr k ↦ has_in_right sp.first sq.first (class t) (lq.begins t x a k) ];
    empty = λ a h. elim h [ inl k ↦ absurd (cc (lp.empty a k, whole)) | inr k ↦ lq.empty a k ];
    accepts = λ t y h k. accepts-by t y (has sp.first (class t)) refl h k;
    opens = λ t x o. elim o [ inl k ↦ has_in_left sp.first sq.first (class t) (lp.opens t x k) | inr k ↦ has_in_right sp.first sq.first (class t) (lq.opens t x k) ];
  }
