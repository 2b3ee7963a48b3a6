-- The laws of any number of phrases.
use Rattle.std.proofs.Common.{◌≡◌, ℕ, zero, suc, ◌<◌, ◌≤◌, Bool, true, false, cond, not, List, [], ◌∷◌, ◌++◌, length, inl, inr, refl, sym, ap, subst, ◌∙◌, append_assoc, length-append, arith}
use Rattle.phrases.specs.Laws.{Said, Front, Opened, Lawful, Dry}
use Rattle.phrases.specs.Reading.{Outcome, Read, Stuck, after, read_then, read_at_most, read_many, rest}
use Rattle.phrases.specs.Sets.{has, apart, starts, Sets, ends, many_sets}
use Rattle.phrases.specs.Spelling.{Then, ThenOpens, Many, ManyOpens}
use Rattle.phrases.specs.declared.fault.Fault.TheVariants.{Syntax, TooDeep}
use Rattle.phrases.proofs.Either.{starts-on, starts-opened}
use Rattle.phrases.proofs.Sequence.{then-first}
use Rattle.phrases.proofs.Sets.{apart_has, ends_left, ends_right, not_true, append_none}

abbrev pub cons : {A : Type 0} → A → List A → List A
cons a vs = a ∷ vs

module _ {T A : Type 0} (class : T → ℕ)
    (P P+ : List T → A → Type 0) (OP : List T → Type 0) (p : List T → Outcome T A) (sp : Sets) (lp : Lawful class P P+ OP p sp)
    (whole : sp.nullable ≡ false) (aside : apart sp.first sp.more ≡ true) where
  -- a phrase takes a token at least
  takes-some : (x : List T) (a : A) → P x a → 0 < length x
  takes-some [] a h = absurd (cc (lp.empty a (lp.wider [] a h), whole))
  takes-some (t ∷ x) a h = omega arith

  whole-p : (x : List T) (a : A) → P x a → p x ≡ Read a []
  whole-p x a h = ap p (sym (append_none x)) ∙ lp.again x a [] h refl

  shorter : (ts : List T) (a : A) (y : List T) → Front P P+ OP p ts (Read a y) → length y < length ts
  shorter ts a y fr = let long = takes-some fr.taken a fr.said in omega (arith, ap length fr.split, length-append fr.taken y)

  abbrev rest_of : ℕ → A → List T → Outcome T (List A)
  rest_of n a y = after (read_at_most class sp.first p n y) (λ vs z. Read (a ∷ vs) z)

  fuel-after : (n m : ℕ) (ts : List T) (o : Outcome T A) → Front P P+ OP p ts o → length ts ≤ suc n → length ts ≤ suc m
      → ((y : List T) → length y ≤ n → length y ≤ m → read_at_most class sp.first p n y ≡ read_at_most class sp.first p m y)
      → after o (rest_of n) ≡ after o (rest_of m)
  fuel-after n m ts (Read a y) fr hn hm g =
      let short = shorter ts a y fr in
      ap (λ (o : Outcome T (List A)). after o (λ vs z. Read (a ∷ vs) z)) (g y (omega arith) (omega arith))
  fuel-after n m ts (Stuck f y) fr hn hm g = refl

  fuel-step : (n m : ℕ) (ts : List T) (b : Bool) → length ts ≤ suc n → length ts ≤ suc m
      → ((y : List T) → length y ≤ n → length y ≤ m → read_at_most class sp.first p n y ≡ read_at_most class sp.first p m y)
      → cond b (after (p ts) (rest_of n)) (Read [] ts) ≡ cond b (after (p ts) (rest_of m)) (Read [] ts)
  fuel-step n m ts true hn hm g = fuel-after n m ts (p ts) (lp.front ts) hn hm g
  fuel-step n m ts false hn hm g = refl

  fuel : (n m : ℕ) (ts : List T) → length ts ≤ n → length ts ≤ m → read_at_most class sp.first p n ts ≡ read_at_most class sp.first p m ts
  fuel zero zero ts hn hm = refl
  fuel zero (suc m) [] hn hm = refl
  fuel zero (suc m) (t ∷ ts) hn hm = absurd (omega arith)
  fuel (suc n) zero [] hn hm = refl
  fuel (suc n) zero (t ∷ ts) hn hm = absurd (omega arith)
  fuel (suc n) (suc m) ts hn hm = fuel-step n m ts (starts class sp.first ts) hn hm (λ y yn ym. fuel n m y yn ym)

  abbrev many : List T → Outcome T (List A)
  many ts = read_many class sp.first p ts

  unfold-after : (n : ℕ) (ts : List T) (o : Outcome T A) → Front P P+ OP p ts o → length ts ≤ suc n
      → after o (rest_of n) ≡ after o (λ a y. after (many y) (λ vs z. Read (cons a vs) z))
  unfold-after n ts (Read a y) fr h =
      let short = shorter ts a y fr in
      ap (λ (o : Outcome T (List A)). after o (λ vs z. Read (a ∷ vs) z)) (fuel n (length y) y (omega arith) (omega arith))
  unfold-after n ts (Stuck f y) fr h = refl

  unfold-cond : (n : ℕ) (ts : List T) (b : Bool) → length ts ≤ suc n
      → cond b (after (p ts) (rest_of n)) (Read [] ts) ≡ cond b (read_then p (λ a. many) cons ts) (Read [] ts)
  unfold-cond n ts true h = unfold-after n ts (p ts) (lp.front ts) h
  unfold-cond n ts false h = refl

  pub many-unfold : (ts : List T) → many ts ≡ cond (starts class sp.first ts) (read_then p (λ a. many) cons ts) (Read [] ts)
  many-unfold [] = refl
  many-unfold (t ∷ ts) = unfold-cond (length ts) (t ∷ ts) (has sp.first (class t)) (omega arith)

  many-if : (ts : List T) → starts class sp.first ts ≡ true → many ts ≡ read_then p (λ a. many) cons ts
  many-if ts b = many-unfold ts ∙ rw b refl

  many-if-not : (ts : List T) → starts class sp.first ts ≡ false → many ts ≡ Read [] ts
  many-if-not ts b = many-unfold ts ∙ rw b refl

  abbrev Spelled : List T → List A → Type 0
  Spelled x vs = Then P (λ a. Many P) cons x vs

  abbrev Spelled+ : List T → List A → Type 0
  Spelled+ x vs = Then P+ (λ a. Many P+) cons x vs

  to-many : (x : List T) (vs : List A) → Spelled x vs → Many P x vs
  to-many x vs th =
      let M : List A → Type 0 = λ v. Many P x v in
      subst M (sym th.value) (th.front, th.back, th.split, th.first, th.second)

  to-many+ : (x : List T) (vs : List A) → Spelled+ x vs → Many P+ x vs
  to-many+ x vs th =
      let M : List A → Type 0 = λ v. Many P+ x v in
      subst M (sym th.value) (th.front, th.back, th.split, th.first, th.second)

  to-opens : (x : List T) → ThenOpens P OP (λ a. ManyOpens P OP) x → ManyOpens P OP x
  to-opens x (inl o) = ([], x, [], refl, refl, o)
  to-opens x (inr s) =
      let (y, z, vs, e, m, o) = s.second in
      (s.front ++ y, z, s.one ∷ vs, cc (append_assoc s.front y z), (s.front, y, refl, s.first, m), o)

  said-many : (o : Outcome T (List A)) (x : List T) → Said Spelled Spelled+ (ThenOpens P OP (λ a. ManyOpens P OP)) o x → Said (Many P) (Many P+) (ManyOpens P OP) o x
  said-many (Read vs y) x h = to-many x vs h
  said-many (Stuck Syntax y) x (z, vs, h) = (z, vs, to-many+ (x ++ z) vs h)
  said-many (Stuck TooDeep y) x h = let (viable, cut) = h in let (z, vs, k) = viable in let (t, w, e, o) = cut in ((z, vs, to-many+ (x ++ z) vs k), (t, w, e, to-opens (x ++ t ∷ []) o))

  -- where a phrase begins, reading takes its first token
  accepts-second : (t : T) (y : List T) (a : A) (y1 : List T) → Front P P+ OP p (t ∷ y) (Read a y1) → (o : Outcome T (List A)) → length (rest o) ≤ length y1 → after o (λ vs z. Read (cons a vs) z) ≡ Stuck Syntax (t ∷ y) → ⊥
  accepts-second t y a y1 fr (Read vs z) h k = cc
  accepts-second t y a y1 fr (Stuck TooDeep z) h k = cc
  accepts-second t y a y1 fr (Stuck Syntax z) h k =
      let same : z ≡ t ∷ y = cc in
      let short = shorter (t ∷ y) a y1 fr in
      omega (arith, ap length same)

  accepts-first : (t : T) (y : List T) → has sp.first (class t) ≡ true → (o : Outcome T A) → p (t ∷ y) ≡ o → Front P P+ OP p (t ∷ y) o
      → ((z : List T) → length (rest (many z)) ≤ length z) → after o (λ a z. after (many z) (λ vs w. Read (cons a vs) w)) ≡ Stuck Syntax (t ∷ y) → ⊥
  accepts-first t y h (Read a y1) e fr g k = accepts-second t y a y1 fr (many y1) (g y1) k
  accepts-first t y h (Stuck Syntax y1) e fr g k = lp.accepts t y h (e ∙ cc)
  accepts-first t y h (Stuck TooDeep y1) e fr g k = cc

  -- what is left is no longer
  left-second : (y : List T) (a : A) (o : Outcome T (List A)) → length (rest o) ≤ length y → length (rest (after o (λ vs z. Read (a ∷ vs) z))) ≤ length y
  left-second y a (Read vs z) h = h
  left-second y a (Stuck f z) h = h

  left-first : (n : ℕ) (ts : List T) (o : Outcome T A) → Front P P+ OP p ts o → ((y : List T) → length (rest (read_at_most class sp.first p n y)) ≤ length y) → length (rest (after o (rest_of n))) ≤ length ts
  left-first n ts (Read a y) fr g =
      let short = shorter ts a y fr in
      let l = left-second y a (read_at_most class sp.first p n y) (g y) in omega arith
  left-first n ts (Stuck f y) fr g = omega (arith, ap length fr.split, length-append fr.taken y)

  left-cond : (n : ℕ) (ts : List T) (b : Bool) → ((y : List T) → length (rest (read_at_most class sp.first p n y)) ≤ length y) → length (rest (cond b (after (p ts) (rest_of n)) (Read [] ts))) ≤ length ts
  left-cond n ts true g = left-first n ts (p ts) (lp.front ts) g
  left-cond n ts false g = omega arith

  left : (n : ℕ) (ts : List T) → length (rest (read_at_most class sp.first p n ts)) ≤ length ts
  left zero ts = omega arith
  left (suc n) ts = left-cond n ts (starts class sp.first ts) (λ y. left n y)

  accepts-many : (t : T) (y : List T) → has sp.first (class t) ≡ true → read_then p (λ a. many) cons (t ∷ y) ≡ Stuck Syntax (t ∷ y) → ⊥
  accepts-many t y h k = accepts-first t y h (p (t ∷ y)) refl (lp.front (t ∷ y)) (λ z. left (length z) z) k

  dry-some : (ts : List T) (o : Outcome T (List A)) → read_then p (λ a. many) cons ts ≡ o → starts class sp.first ts ≡ true → (x : List T) → ts ≡ x ++ rest o → Dry (read_then p (λ a. many) cons) o x → Dry many o x
  dry-some ts (Read a y) e b x s d = tt
  dry-some ts (Stuck TooDeep y) e b x s d = tt
  dry-some [] (Stuck Syntax y) e b [] s d = absurd (cc)
  dry-some (t ∷ ts) (Stuck Syntax y) e b [] s d = absurd (accepts-many t ts b (e ∙ cc))
  dry-some ts (Stuck Syntax y) e b (t ∷ x) s d = let same : has sp.first (class t) ≡ true = rw s at b in many-if (t ∷ x) same ∙ d

  front-some : (ts : List T) (o : Outcome T (List A)) → read_then p (λ a. many) cons ts ≡ o → starts class sp.first ts ≡ true
      → Front Spelled Spelled+ (ThenOpens P OP (λ a. ManyOpens P OP)) (read_then p (λ a. many) cons) ts o → Front (Many P) (Many P+) (ManyOpens P OP) many ts o
  front-some ts o pe b fr = record {
    dry = dry-some ts o pe b fr.taken fr.split fr.dry;
    taken = fr.taken;
    split = fr.split;
    said = said-many o fr.taken fr.said;
    local = λ t w z e. many-if (fr.taken ++ t ∷ z) (starts-on class sp.first ts fr.taken t w z (fr.split ∙ ap (λ (v : List T). fr.taken ++ v) e) ∙ b) ∙ fr.local t w z e;
  }

  front-none : (ts : List T) → starts class sp.first ts ≡ false → Front (Many P) (Many P+) (ManyOpens P OP) many ts (Read [] ts)
  front-none ts b = record {
    taken = [];
    split = refl;
    said = refl;
    dry = tt;
    local = λ t w z e. many-if-not (t ∷ z) (starts-on class sp.first ts [] t w z e ∙ b);
  }

  many-some : (a : A) → (x : List T) × (vs : List A) × Many P+ x vs
  many-some a = ([], [], refl)

  front-by : (n : ℕ) (ts : List T) → length ts ≤ n → (b : Bool) → starts class sp.first ts ≡ b
      → ((y : List T) → length y < length ts → Front (Many P) (Many P+) (ManyOpens P OP) many y (many y)) → Front (Many P) (Many P+) (ManyOpens P OP) many ts (many ts)
  front-by n ts h false b g =
      let F : Outcome T (List A) → Type 0 = λ o. Front (Many P) (Many P+) (ManyOpens P OP) many ts o in
      subst F (sym (many-if-not ts b)) (front-none ts b)
  front-by n ts h true b g =
      let F : Outcome T (List A) → Type 0 = λ o. Front (Many P) (Many P+) (ManyOpens P OP) many ts o in
      subst F (sym (many-if ts b)) (front-some ts (read_then p (λ a. many) cons ts) refl b (then-first P P+ OP p (λ a. Many P) (λ a. Many P+) (λ a. ManyOpens P OP) (λ a. many) many-some lp.wider whole-p cons ts (p ts) (lp.front ts)
      (λ a y e. let G : Outcome T A → Type 0 = λ o. Front P P+ OP p ts o in g y (shorter ts a y (subst G e (lp.front ts))))))

  many-front : (n : ℕ) (ts : List T) → length ts ≤ n → Front (Many P) (Many P+) (ManyOpens P OP) many ts (many ts)
  many-front zero [] h = front-none [] refl
  many-front zero (t ∷ ts) h = absurd (omega arith)
  many-front (suc n) ts h = front-by (suc n) ts h (starts class sp.first ts) refl (λ y short. many-front n y (omega arith))

  many-wider : (x : List T) (vs : List A) → Many P x vs → Many P+ x vs
  many-wider x [] h = h
  many-wider x (a ∷ vs) (y, z, e, h, m) = (y, z, e, lp.wider y a h, many-wider z vs m)

  many-begins : (t : T) (x : List T) (vs : List A) → Many P+ (t ∷ x) vs → has sp.first (class t) ≡ true
  many-begins t x [] h = absurd (cc)
  many-begins t x (a ∷ vs) ([], z, e, h, m) = absurd (cc (lp.empty a h, whole))
  many-begins t x (a ∷ vs) (s ∷ y, z, e, h, m) = let same : t ≡ s = cc in rw same (lp.begins s y a h)

  many-opens : (vs : List A) (t : T) (x y z : List T) → t ∷ x ≡ y ++ z → Many P y vs → OP z → has sp.first (class t) ≡ true
  many-opens vs t x [] z e m o = lp.opens t x (let e' : z ≡ t ∷ x = cc in subst OP e' o)
  many-opens vs t x (s ∷ y) z e m o = let same : t ≡ s = cc in rw same (many-begins s y vs (many-wider (s ∷ y) vs m))

  ends-first : (t : T) (ts : List T) → has sp.first (class t) ≡ true → ends class sp.more (t ∷ ts) ≡ true
  ends-first t ts h = ap not (apart_has sp.first sp.more (class t) aside h)

  gap : (back y : List T) (vs : List A) → Many P back vs → ends class (many_sets sp).more y ≡ true → ends class sp.more (back ++ y) ≡ true
  gap [] y vs m e = ends_left class sp.more sp.first y e
  gap (t ∷ back) y vs m e = ends-first t (back ++ y) (many-begins t back vs (many-wider (t ∷ back) vs m))

  starts-taken : (x : List T) (a : A) (y : List T) → P x a → starts class sp.first (x ++ y) ≡ true
  starts-taken [] a y h = absurd (cc (lp.empty a (lp.wider [] a h), whole))
  starts-taken (t ∷ x) a y h = lp.begins t x a (lp.wider (t ∷ x) a h)

  starts-none : (y : List T) → ends class (many_sets sp).more y ≡ true → starts class sp.first y ≡ false
  starts-none [] e = refl
  starts-none (t ∷ y) e = not_true (has sp.first (class t)) (ends_right class sp.more sp.first (t ∷ y) e)

  -- a phrase, and what is read after it
  step-run : (x1 x2 : List T) (a : A) (o : Outcome T (List A)) → P x1 a → ends class sp.more x2 ≡ true → many x2 ≡ o → many (x1 ++ x2) ≡ after o (λ vs z. Read (a ∷ vs) z)
  step-run x1 x2 a o h e m = many-if (x1 ++ x2) (starts-taken x1 a x2 h) ∙ rw (lp.again x1 a x2 h e, m) refl

  many-again : (vs : List A) (x y : List T) → Many P x vs → ends class (many_sets sp).more y ≡ true → many (x ++ y) ≡ Read vs y
  many-again [] x y h e = rw h (many-if-not y (starts-none y e))
  many-again (a ∷ vs) x y (x1, x2, s, h, m) e =
      rw (s, append_assoc x1 x2 y) (step-run x1 (x2 ++ y) a (Read vs y) h (gap x2 y vs m e) (many-again vs x2 y m e))

  gap-opened : (x before : List T) (t : T) (y : List T) → x ≡ before ++ t ∷ [] → ((u : T) (v : List T) → x ≡ u ∷ v → has sp.first (class u) ≡ true) → ends class sp.more (before ++ t ∷ y) ≡ true
  gap-opened x [] t y e h = ends-first t y (h t [] e)
  gap-opened x (u ∷ before) t y e h = ends-first u (before ++ t ∷ y) (h u (before ++ t ∷ []) e)

  many-deep : (vs : List A) (y z : List T) → Many P y vs → OP z → Opened many (y ++ z)
  many-deep [] y z h o =
      let d = lp.deep z o in
      record {
        before = d.before;
        opener = d.opener;
        split = rw h d.split;
        is_deep = λ w. many-if (d.before ++ d.opener ∷ w) (starts-opened class sp.first true z d.before d.opener w d.split (λ u v e. lp.opens u v (subst OP e o))) ∙ rw (d.is_deep w) refl;
      }
  many-deep (a ∷ vs) y z (y1, y2, s, h, m) o =
      let d = many-deep vs y2 z m o in
      record {
        before = y1 ++ d.before;
        opener = d.opener;
        split = cc (append_assoc y1 y2 z, append_assoc y1 d.before (d.opener ∷ []));
        is_deep = λ w. rw (append_assoc y1 d.before (d.opener ∷ w)) (step-run y1 (d.before ++ d.opener ∷ w) a (Stuck TooDeep (d.opener ∷ w)) h
            (gap-opened (y2 ++ z) d.before d.opener w d.split (λ u v e. many-opens vs u v y2 z (sym e) m o)) (d.is_deep w));
      }

  many-opened : (x : List T) → ManyOpens P OP x → Opened many x
  many-opened x (y, z, vs, e, m, o) = subst (Opened many) (sym e) (many-deep vs y z m o)

  pub many-lawful : Lawful class (Many P) (Many P+) (ManyOpens P OP) many (many_sets sp)
  many-lawful = record {
    front = λ ts. many-front (length ts) ts (omega arith);
    again = λ x vs y m e. many-again vs x y m e;
    deep = many-opened;
    wider = many-wider;
    some = ([], [], refl);
    begins = many-begins;
    empty = λ vs m. refl;
    accepts = λ t y h k. accepts-many t y h (sym (many-if (t ∷ y) h) ∙ k);
    opens = λ t x o. let (y, z, vs, e, m, k) = o in many-opens vs t x y z e m k;
  }
