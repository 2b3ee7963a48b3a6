-- The laws of a phrase and then another.
use Rattle.std.proofs.Common.{◌≡◌, ℕ, true, false, cond, not, List, [], ◌∷◌, ◌++◌, inl, inr, refl, sym, ap, subst, ◌∙◌, append_assoc}
use Rattle.phrases.specs.Laws.{Front, Opened, Lawful}
use Rattle.phrases.specs.Reading.{Outcome, Read, Stuck, after, read_then}
use Rattle.phrases.specs.Sets.{has, apart, Sets, ends, then_sets}
use Rattle.phrases.specs.Spelling.{Then, ThenOpens}
use Rattle.phrases.specs.declared.fault.Fault.TheVariants.{Syntax, TooDeep}
use Rattle.phrases.proofs.Sets.{apart_has, ends_left, ends_right, local-on, append_none, not_longer}

module _ {T A B C : Type 0}
    (P P+ : List T → A → Type 0) (OP : List T → Type 0) (p : List T → Outcome T A)
    (Q Q+ : A → List T → B → Type 0) (OQ : A → List T → Type 0) (q : A → List T → Outcome T B)
    (some : (a : A) → (x : List T) × (b : B) × Q+ a x b) (wider : (x : List T) (a : A) → P x a → P+ x a) (whole-read : (x : List T) (a : A) → P x a → p x ≡ Read a [])
    (f : A → B → C) where
  abbrev pub done : A → B → List T → Outcome T C
  done a b z = Read (f a b) z

  abbrev pub next : A → List T → Outcome T C
  next a y = after (q a y) (done a)

  pub then-run : (x1 x2 z : List T) (a : A) (o : Outcome T B) → p (x1 ++ (x2 ++ z)) ≡ Read a (x2 ++ z) → q a (x2 ++ z) ≡ o → read_then p q f ((x1 ++ x2) ++ z) ≡ after o (done a)
  then-run x1 x2 z a o e1 e2 = rw (append_assoc x1 x2 z, e1, e2) refl

  cut-on : (ts : List T) (a : A) (y : List T) (fr : Front P P+ OP p ts (Read a y)) (x2 y2 : List T) → y ≡ x2 ++ y2 → p (fr.taken ++ x2) ≡ Read a x2
  cut-on ts a y fr [] y2 e = rw (append_none fr.taken) (whole-read fr.taken a fr.said)
  cut-on ts a y fr (s ∷ x2) y2 e = fr.local s (x2 ++ y2) x2 e

  pub then-second : (ts : List T) (a : A) (y : List T) → Front P P+ OP p ts (Read a y) → (o : Outcome T B) → Front (Q a) (Q+ a) (OQ a) (q a) y o
      → Front (Then P Q f) (Then P+ Q+ f) (ThenOpens P OP OQ) (read_then p q f) ts (after o (done a))
  then-second ts a y fr (Read b z) gr = record {
    taken = fr.taken ++ gr.taken;
    split = cc (append_assoc fr.taken gr.taken z);
    said = record { front = fr.taken; back = gr.taken; one = a; two = b; split = refl; first = fr.said; second = gr.said; value = refl };
    local = λ t w z' e. then-run fr.taken gr.taken (t ∷ z') a (Read b (t ∷ z')) (local-on fr gr.taken t w z' (gr.split ∙ ap (λ (v : List T). gr.taken ++ v) e)) (gr.local t w z' e);
    dry = tt;
  }
  then-second ts a y fr (Stuck Syntax z) gr = record {
    taken = fr.taken ++ gr.taken;
    split = cc (append_assoc fr.taken gr.taken z);
    said = let (more, b, spelled) = gr.said in
        (more, f a b, record { front = fr.taken; back = gr.taken ++ more; one = a; two = b; split = append_assoc fr.taken gr.taken more; first = wider _ _ fr.said; second = spelled; value = refl });
    local = λ t w z' e. then-run fr.taken gr.taken (t ∷ z') a (Stuck Syntax (t ∷ z')) (local-on fr gr.taken t w z' (gr.split ∙ ap (λ (v : List T). gr.taken ++ v) e)) (gr.local t w z' e);
    dry = rw (cut-on ts a y fr gr.taken z gr.split, gr.dry) refl;
  }
  then-second ts a y fr (Stuck TooDeep z) gr = record {
    taken = fr.taken ++ gr.taken;
    split = cc (append_assoc fr.taken gr.taken z);
    said = let (viable, cut) = gr.said in let (more, b, spelled) = viable in let (t, w, e, opens) = cut in
        ((more, f a b, record { front = fr.taken; back = gr.taken ++ more; one = a; two = b; split = append_assoc fr.taken gr.taken more; first = wider _ _ fr.said; second = spelled; value = refl }), (t, w, e, inr (record { front = fr.taken; back = gr.taken ++ t ∷ []; one = a; split = append_assoc fr.taken gr.taken (t ∷ []); first = fr.said; second = opens })));
    local = λ t w z' e. then-run fr.taken gr.taken (t ∷ z') a (Stuck TooDeep (t ∷ z')) (local-on fr gr.taken t w z' (gr.split ∙ ap (λ (v : List T). gr.taken ++ v) e)) (gr.local t w z' e);
    dry = tt;
  }

  pub then-first : (ts : List T) (o : Outcome T A) → Front P P+ OP p ts o → ((a : A) (y : List T) → o ≡ Read a y → Front (Q a) (Q+ a) (OQ a) (q a) y (q a y))
      → Front (Then P Q f) (Then P+ Q+ f) (ThenOpens P OP OQ) (read_then p q f) ts (after o next)
  then-first ts (Read a y) fr g = then-second ts a y fr (q a y) (g a y refl)
  then-first ts (Stuck Syntax y) fr g = record {
    taken = fr.taken;
    split = fr.split;
    said = let (more, a, spelled) = fr.said in let (z, b, s) = some a in
        (more ++ z, f a b, record { front = fr.taken ++ more; back = z; one = a; two = b; split = sym (append_assoc fr.taken more z); first = spelled; second = s; value = refl });
    local = λ t w z e. ap (λ (o : Outcome T A). after o next) (fr.local t w z e);
    dry = ap (λ (o : Outcome T A). after o next) fr.dry;
  }
  then-first ts (Stuck TooDeep y) fr g = record {
    taken = fr.taken;
    split = fr.split;
    said = let (viable, cut) = fr.said in let (more, a, spelled) = viable in let (z, b, s) = some a in let (t, w, e, opens) = cut in
        ((more ++ z, f a b, record { front = fr.taken ++ more; back = z; one = a; two = b; split = sym (append_assoc fr.taken more z); first = spelled; second = s; value = refl }), (t, w, e, inl opens));
    local = λ t w z e. ap (λ (o : Outcome T A). after o next) (fr.local t w z e);
    dry = tt;
  }

module _ {T A B C : Type 0} (class : T → ℕ)
    (P P+ : List T → A → Type 0) (OP : List T → Type 0) (p : List T → Outcome T A) (sp : Sets) (lp : Lawful class P P+ OP p sp)
    (Q Q+ : A → List T → B → Type 0) (OQ : A → List T → Type 0) (q : A → List T → Outcome T B) (sq : Sets) (lq : (a : A) → Lawful class (Q a) (Q+ a) (OQ a) (q a) sq)
    (f : A → B → C) (whole : sp.nullable ≡ false) (aside : apart sq.first sp.more ≡ true) where
  whole-p : (x : List T) (a : A) → P x a → p x ≡ Read a []
  whole-p x a h = ap p (sym (append_none x)) ∙ lp.again x a [] h refl

  accepts-second : (t : T) (y : List T) (a : A) (y1 : List T) → Front P P+ OP p (t ∷ y) (Read a y1) → (o : Outcome T B) → Front (Q a) (Q+ a) (OQ a) (q a) y1 o → after o (λ b z. Read (f a b) z) ≡ Stuck Syntax (t ∷ y) → ⊥
  accepts-second t y a y1 fr (Read b z) gr k = cc
  accepts-second t y a y1 fr (Stuck TooDeep z) gr k = cc
  accepts-second t y a y1 fr (Stuck Syntax z) gr k = by-taken fr.taken fr.said fr.split
    where
      by-taken : (x : List T) → P x a → t ∷ y ≡ x ++ y1 → ⊥
      by-taken [] h e = cc (lp.empty a (lp.wider [] a h), whole)
      by-taken (s ∷ x) h e = let same : z ≡ t ∷ y = cc in not_longer s x gr.taken (t ∷ y) (e ∙ ap (λ (v : List T). (s ∷ x) ++ v) (gr.split ∙ ap (λ (v : List T). gr.taken ++ v) same))

  accepts-first : (t : T) (y : List T) → has sp.first (class t) ≡ true → (o : Outcome T A) → p (t ∷ y) ≡ o → Front P P+ OP p (t ∷ y) o → after o (λ a z. after (q a z) (λ b w. Read (f a b) w)) ≡ Stuck Syntax (t ∷ y) → ⊥
  accepts-first t y h (Read a y1) e fr k = accepts-second t y a y1 fr (q a y1) ((lq a).front y1) k
  accepts-first t y h (Stuck Syntax y1) e fr k = lp.accepts t y h (e ∙ cc)
  accepts-first t y h (Stuck TooDeep y1) e fr k = cc

  ends-token : (t : T) (ts : List T) → has sq.first (class t) ≡ true → ends class sp.more (t ∷ ts) ≡ true
  ends-token t ts h = ap not (apart_has sq.first sp.more (class t) aside h)

  gap : (back y : List T) (a : A) (b : B) → Q a back b → ends class (then_sets sp sq).more y ≡ true → ends class sp.more (back ++ y) ≡ true
  gap [] y a b h e =
      let n : sq.nullable ≡ true = (lq a).empty b ((lq a).wider [] b h) in
      ends_right class sq.more sp.more y (rw n at e)
  gap (t ∷ back) y a b h e = ends-token t (back ++ y) ((lq a).begins t back b ((lq a).wider (t ∷ back) b h))

  gap-opens : (before : List T) (t : T) (y back : List T) (a : A) → back ≡ before ++ t ∷ [] → OQ a back → ends class sp.more (before ++ t ∷ y) ≡ true
  gap-opens [] t y back a e o = ends-token t y ((lq a).opens t [] (subst (OQ a) e o))
  gap-opens (s ∷ before) t y back a e o = ends-token s (before ++ t ∷ y) ((lq a).opens s (before ++ t ∷ []) (subst (OQ a) e o))

  then-again : (x : List T) (c : C) (y : List T) → Then P Q f x c → ends class (then_sets sp sq).more y ≡ true → read_then p q f (x ++ y) ≡ Read c y
  then-again x c y th e =
      let e1 = lp.again th.front th.one (th.back ++ y) th.first (gap th.back y th.one th.two th.second e) in
      let e2 = (lq th.one).again th.back th.two y th.second (ends_left class sq.more (cond sq.nullable sp.more []) y e) in
      rw (th.split, th.value) (then-run P P+ OP p Q Q+ OQ q (λ a. (lq a).some) lp.wider whole-p f th.front th.back y th.one (Read th.two y) e1 e2)

  then-deep : (x : List T) → ThenOpens P OP OQ x → Opened (read_then p q f) x
  then-deep x (inl o) =
      let d = lp.deep x o in
      record { before = d.before; opener = d.opener; split = d.split; is_deep = λ y. rw (d.is_deep y) refl }
  then-deep x (inr s) =
      let d = (lq s.one).deep s.back s.second in
      record {
        before = s.front ++ d.before;
        opener = d.opener;
        split = cc (append_assoc s.front d.before (d.opener ∷ []));
        is_deep = λ y. then-run P P+ OP p Q Q+ OQ q (λ a. (lq a).some) lp.wider whole-p f s.front d.before (d.opener ∷ y) s.one (Stuck TooDeep (d.opener ∷ y))
            (lp.again s.front s.one (d.before ++ d.opener ∷ y) s.first (gap-opens d.before d.opener y s.back s.one d.split s.second)) (d.is_deep y);
      }

  then-head : (t : T) (x front back : List T) (a : A) → t ∷ x ≡ front ++ back → P+ front a → has sp.first (class t) ≡ true
  then-head t x [] back a e h = absurd (cc (lp.empty a h, whole))
  then-head t x (s ∷ front) back a e h = let same : t ≡ s = cc in rw same (lp.begins s front a h)

  then-empty : (front back : List T) (a : A) → [] ≡ front ++ back → P+ front a → ⊥
  then-empty [] back a e h = cc (lp.empty a h, whole)
  then-empty (s ∷ front) back a e h = cc

  pub then-lawful : Lawful class (Then P Q f) (Then P+ Q+ f) (ThenOpens P OP OQ) (read_then p q f) (then_sets sp sq)
  then-lawful = record {
    front = λ ts. then-first P P+ OP p Q Q+ OQ q (λ a. (lq a).some) lp.wider whole-p f ts (p ts) (lp.front ts) (λ a y e. (lq a).front y);
    again = then-again;
    deep = then-deep;
    wider = λ x c th. record { front = th.front; back = th.back; one = th.one; two = th.two; split = th.split; first = lp.wider th.front th.one th.first; second = (lq th.one).wider th.back th.two th.second; value = th.value };
    some = let (x, a, h) = lp.some in let (z, b, k) = (lq a).some in (x ++ z, f a b, record { front = x; back = z; one = a; two = b; split = refl; first = h; second = k; value = refl });
    begins = λ t x c th. then-head t x th.front th.back th.one th.split th.first;
    empty = λ c th. absurd (then-empty th.front th.back th.one th.split th.first);
    accepts = λ t y h k. accepts-first t y h (p (t ∷ y)) refl (lp.front (t ∷ y)) k;
    opens = λ t x o. elim o [ inl k ↦ lp.opens t x k | inr s ↦ then-head t x s.front s.back s.one s.split (lp.wider s.front s.one s.first) ];
  }
