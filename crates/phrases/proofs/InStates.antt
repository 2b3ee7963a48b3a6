-- The laws of a run of phrases in states.
use Rattle.std.proofs.Common.{◌≡◌, ℕ, zero, suc, ◌<◌, ◌≤◌, Bool, true, false, cond, not, List, [], ◌∷◌, ◌++◌, length, Option, Some, None, inl, inr, refl, sym, ap, subst, ◌∙◌, append_assoc, length-append, arith}
use Rattle.phrases.specs.Laws.{Said, Front, Opened, Lawful, Dry}
use Rattle.phrases.specs.Reading.{Outcome, Read, Stuck, after, read_then, rest}
use Rattle.phrases.specs.Series.{goes, Run, RunOpens, SomeRunOpens, goes_on, read_run_at_most, read_run}
use Rattle.phrases.specs.Sets.{has, apart, starts, ends, item_sets, series_sets, within}
use Rattle.phrases.specs.Spelling.{Then, ThenOpens}
use Rattle.phrases.specs.declared.fault.Fault.TheVariants.{Syntax, TooDeep}
use Rattle.phrases.proofs.Either.{starts-on, starts-opened}
use Rattle.phrases.proofs.Repeated.{cons}
use Rattle.phrases.proofs.Sequence.{then-first}
use Rattle.phrases.proofs.Sets.{within-has, within-not, apart_has, ends_left, ends_right, not_true, append_none}

module _ {T A S : Type 0} (class : T → ℕ)
    (P P+ : S → List T → A → Type 0) (OP : S → List T → Type 0) (p : S → List T → Outcome T A) (first : S → List ℕ) (more all : List ℕ) (lp : (s : S) → Lawful class (P s) (P+ s) (OP s) (p s) (item_sets (first s) more))
    (next : S → A → Option S) (inside : (s : S) → within (first s) all ≡ true) (aside : apart all more ≡ true) where
  -- no item is empty
  not_empty : (s : S) (a : A) → P+ s [] a → ⊥
  not_empty s a h = let e : false ≡ true = (lp s).empty a h in cc

  takes-some : (s : S) (x : List T) (a : A) → P s x a → 0 < length x
  takes-some s [] a h = absurd (not_empty s a ((lp s).wider [] a h))
  takes-some s (t ∷ x) a h = omega arith

  whole-p : (s : S) (x : List T) (a : A) → P s x a → p s x ≡ Read a []
  whole-p s x a h = ap (p s) (sym (append_none x)) ∙ (lp s).again x a [] h refl

  shorter : (s : S) (ts : List T) (a : A) (y : List T) → Front (P s) (P+ s) (OP s) (p s) ts (Read a y) → length y < length ts
  shorter s ts a y fr = let long = takes-some s fr.taken a fr.said in omega (arith, ap length fr.split, length-append fr.taken y)

  abbrev at_most : ℕ → S → List T → Outcome T (List A)
  at_most n s y = read_run_at_most class first p next n s y

  abbrev rest_of : S → ℕ → A → List T → Outcome T (List A)
  rest_of s n a y = after (goes_on (next s a) (at_most n) y) (λ vs z. Read (a ∷ vs) z)

  fuel-on : (n m : ℕ) (o : Option S) (y : List T) → ((s : S) → at_most n s y ≡ at_most m s y) → goes_on o (at_most n) y ≡ goes_on o (at_most m) y
  fuel-on n m None y g = refl
  fuel-on n m (Some s) y g = g s

  fuel-after : (s : S) (n m : ℕ) (ts : List T) (o : Outcome T A) → Front (P s) (P+ s) (OP s) (p s) ts o → length ts ≤ suc n → length ts ≤ suc m
      → ((t : S) (y : List T) → length y ≤ n → length y ≤ m → at_most n t y ≡ at_most m t y) → after o (rest_of s n) ≡ after o (rest_of s m)
  fuel-after s n m ts (Read a y) fr hn hm g =
      let short = shorter s ts a y fr in
      ap (λ (o : Outcome T (List A)). after o (λ vs z. Read (a ∷ vs) z)) (fuel-on n m (next s a) y (λ t. g t y (omega arith) (omega arith)))
  fuel-after s n m ts (Stuck f y) fr hn hm g = refl

  fuel-step : (s : S) (n m : ℕ) (ts : List T) (b : Bool) → length ts ≤ suc n → length ts ≤ suc m
      → ((t : S) (y : List T) → length y ≤ n → length y ≤ m → at_most n t y ≡ at_most m t y) → cond b (after (p s ts) (rest_of s n)) (Read [] ts) ≡ cond b (after (p s ts) (rest_of s m)) (Read [] ts)
  fuel-step s n m ts true hn hm g = fuel-after s n m ts (p s ts) ((lp s).front ts) hn hm g
  fuel-step s n m ts false hn hm g = refl

  fuel : (n m : ℕ) (s : S) (ts : List T) → length ts ≤ n → length ts ≤ m → at_most n s ts ≡ at_most m s ts
  fuel zero zero s ts hn hm = refl
  fuel zero (suc m) s [] hn hm = refl
  fuel zero (suc m) s (t ∷ ts) hn hm = absurd (omega arith)
  fuel (suc n) zero s [] hn hm = refl
  fuel (suc n) zero s (t ∷ ts) hn hm = absurd (omega arith)
  fuel (suc n) (suc m) s ts hn hm = fuel-step s n m ts (starts class (first s) ts) hn hm (λ t y yn ym. fuel n m t y yn ym)

  abbrev run : S → List T → Outcome T (List A)
  run s ts = read_run class first p next s ts

  abbrev on : S → A → List T → Outcome T (List A)
  on s a y = goes_on (next s a) run y

  unfold-after : (s : S) (n : ℕ) (ts : List T) (o : Outcome T A) → Front (P s) (P+ s) (OP s) (p s) ts o → length ts ≤ suc n
      → after o (rest_of s n) ≡ after o (λ a y. after (on s a y) (λ vs z. Read (cons a vs) z))
  unfold-after s n ts (Read a y) fr h =
      let short = shorter s ts a y fr in
      ap (λ (o : Outcome T (List A)). after o (λ vs z. Read (a ∷ vs) z)) (by (next s a) short)
    where
      by : (o : Option S) → length y < length ts → goes_on o (at_most n) y ≡ goes_on o run y
      by None short = refl
      by (Some t) short = fuel n (length y) t y (omega arith) (omega arith)
  unfold-after s n ts (Stuck f y) fr h = refl

  unfold-cond : (s : S) (n : ℕ) (ts : List T) (b : Bool) → length ts ≤ suc n
      → cond b (after (p s ts) (rest_of s n)) (Read [] ts) ≡ cond b (read_then (p s) (on s) cons ts) (Read [] ts)
  unfold-cond s n ts true h = unfold-after s n ts (p s ts) ((lp s).front ts) h
  unfold-cond s n ts false h = refl

  pub run-unfold : (s : S) (ts : List T) → run s ts ≡ cond (starts class (first s) ts) (read_then (p s) (on s) cons ts) (Read [] ts)
  run-unfold s [] = refl
  run-unfold s (t ∷ ts) = unfold-cond s (length ts) (t ∷ ts) (has (first s) (class t)) (omega arith)

  run-if : (s : S) (ts : List T) → starts class (first s) ts ≡ true → run s ts ≡ read_then (p s) (on s) cons ts
  run-if s ts b = run-unfold s ts ∙ rw b refl

  run-if-not : (s : S) (ts : List T) → starts class (first s) ts ≡ false → run s ts ≡ Read [] ts
  run-if-not s ts b = run-unfold s ts ∙ rw b refl

  -- what follows a value
  abbrev Rest : S → A → List T → List A → Type 0
  Rest s a z vs = goes (next s a) (λ t. Run P next t z vs) ((z ≡ []) × (vs ≡ []))

  abbrev Rest+ : S → A → List T → List A → Type 0
  Rest+ s a z vs = goes (next s a) (λ t. Run P+ next t z vs) ((z ≡ []) × (vs ≡ []))

  abbrev RestOpens : S → A → List T → Type 0
  RestOpens s a z = goes (next s a) (λ t. SomeRunOpens P OP next t z) ⊥

  abbrev Spelled : S → List T → List A → Type 0
  Spelled s x vs = Then (P s) (Rest s) cons x vs

  abbrev Spelled+ : S → List T → List A → Type 0
  Spelled+ s x vs = Then (P+ s) (Rest+ s) cons x vs

  to-run : (s : S) (x : List T) (vs : List A) → Spelled s x vs → Run P next s x vs
  to-run s x vs th = let M : List A → Type 0 = λ v. Run P next s x v in subst M (sym th.value) (th.front, th.back, th.split, th.first, th.second)

  to-run+ : (s : S) (x : List T) (vs : List A) → Spelled+ s x vs → Run P+ next s x vs
  to-run+ s x vs th = let M : List A → Type 0 = λ v. Run P+ next s x v in subst M (sym th.value) (th.front, th.back, th.split, th.first, th.second)

  to-opens : (s : S) (x : List T) → ThenOpens (P s) (OP s) (RestOpens s) x → SomeRunOpens P OP next s x
  to-opens s x (inl o) = ([], o)
  to-opens s x (inr r) = by (next s r.one) refl r.second
    where
      by : (o : Option S) → next s r.one ≡ o → goes o (λ t. SomeRunOpens P OP next t r.back) ⊥ → SomeRunOpens P OP next s x
      by None e h = absurd h
      by (Some t) e h =
          let G : Option S → Type 0 = λ o. goes o (λ u. RunOpens P OP next u h.0 r.back) ⊥ in
          (r.one ∷ h.0, (r.front, r.back, r.split, r.first, subst G (sym e) h.1))

  said-run : (s : S) (o : Outcome T (List A)) (x : List T) → Said (Spelled s) (Spelled+ s) (ThenOpens (P s) (OP s) (RestOpens s)) o x → Said (Run P next s) (Run P+ next s) (SomeRunOpens P OP next s) o x
  said-run s (Read vs y) x h = to-run s x vs h
  said-run s (Stuck Syntax y) x (z, vs, h) = (z, vs, to-run+ s (x ++ z) vs h)
  said-run s (Stuck TooDeep y) x h = let (viable, cut) = h in let (z, vs, k) = viable in let (t, w, e, o) = cut in ((z, vs, to-run+ s (x ++ z) vs k), (t, w, e, to-opens s (x ++ t ∷ []) o))

  -- what is left is no longer
  left-second : (y : List T) (a : A) (o : Outcome T (List A)) → length (rest o) ≤ length y → length (rest (after o (λ vs z. Read (a ∷ vs) z))) ≤ length y
  left-second y a (Read vs z) h = h
  left-second y a (Stuck f z) h = h

  left-on : (n : ℕ) (o : Option S) (y : List T) → ((t : S) (y : List T) → length (rest (at_most n t y)) ≤ length y) → length (rest (goes_on o (at_most n) y)) ≤ length y
  left-on n None y g = omega arith
  left-on n (Some t) y g = g t y

  left-first : (s : S) (n : ℕ) (ts : List T) (o : Outcome T A) → Front (P s) (P+ s) (OP s) (p s) ts o → ((t : S) (y : List T) → length (rest (at_most n t y)) ≤ length y) → length (rest (after o (rest_of s n))) ≤ length ts
  left-first s n ts (Read a y) fr g =
      let short = shorter s ts a y fr in
      let l = left-second y a (goes_on (next s a) (at_most n) y) (left-on n (next s a) y g) in omega arith
  left-first s n ts (Stuck f y) fr g = omega (arith, ap length fr.split, length-append fr.taken y)

  left-cond : (s : S) (n : ℕ) (ts : List T) (b : Bool) → ((t : S) (y : List T) → length (rest (at_most n t y)) ≤ length y) → length (rest (cond b (after (p s ts) (rest_of s n)) (Read [] ts))) ≤ length ts
  left-cond s n ts true g = left-first s n ts (p s ts) ((lp s).front ts) g
  left-cond s n ts false g = omega arith

  left : (n : ℕ) (s : S) (ts : List T) → length (rest (at_most n s ts)) ≤ length ts
  left zero s ts = omega arith
  left (suc n) s ts = left-cond s n ts (starts class (first s) ts) (λ t y. left n t y)

  left-run : (o : Option S) (y : List T) → length (rest (goes_on o run y)) ≤ length y
  left-run None y = omega arith
  left-run (Some t) y = left (length y) t y

  -- where a phrase begins, reading takes its first token
  accepts-second : (s : S) (t : T) (y : List T) (a : A) (y1 : List T) → Front (P s) (P+ s) (OP s) (p s) (t ∷ y) (Read a y1) → (o : Outcome T (List A)) → length (rest o) ≤ length y1 → after o (λ vs z. Read (cons a vs) z) ≡ Stuck Syntax (t ∷ y) → ⊥
  accepts-second s t y a y1 fr (Read vs z) h k = cc
  accepts-second s t y a y1 fr (Stuck TooDeep z) h k = cc
  accepts-second s t y a y1 fr (Stuck Syntax z) h k =
      let same : z ≡ t ∷ y = cc in
      let short = shorter s (t ∷ y) a y1 fr in
      omega (arith, ap length same)

  accepts-first : (s : S) (t : T) (y : List T) → has (first s) (class t) ≡ true → (o : Outcome T A) → p s (t ∷ y) ≡ o → Front (P s) (P+ s) (OP s) (p s) (t ∷ y) o
      → after o (λ a z. after (on s a z) (λ vs w. Read (cons a vs) w)) ≡ Stuck Syntax (t ∷ y) → ⊥
  accepts-first s t y h (Read a y1) e fr k = accepts-second s t y a y1 fr (on s a y1) (left-run (next s a) y1) k
  accepts-first s t y h (Stuck Syntax y1) e fr k = (lp s).accepts t y h (e ∙ cc)
  accepts-first s t y h (Stuck TooDeep y1) e fr k = cc

  accepts-run : (s : S) (t : T) (y : List T) → has (first s) (class t) ≡ true → read_then (p s) (on s) cons (t ∷ y) ≡ Stuck Syntax (t ∷ y) → ⊥
  accepts-run s t y h k = accepts-first s t y h (p s (t ∷ y)) refl ((lp s).front (t ∷ y)) k

  dry-some : (s : S) (ts : List T) (o : Outcome T (List A)) → read_then (p s) (on s) cons ts ≡ o → starts class (first s) ts ≡ true → (x : List T) → ts ≡ x ++ rest o → Dry (read_then (p s) (on s) cons) o x → Dry (run s) o x
  dry-some s ts (Read a y) e b x k d = tt
  dry-some s ts (Stuck TooDeep y) e b x k d = tt
  dry-some s [] (Stuck Syntax y) e b [] k d = absurd (cc)
  dry-some s (t ∷ ts) (Stuck Syntax y) e b [] k d = absurd (accepts-run s t ts b (e ∙ cc))
  dry-some s ts (Stuck Syntax y) e b (t ∷ x) k d = let same : has (first s) (class t) ≡ true = rw k at b in run-if s (t ∷ x) same ∙ d

  front-some : (s : S) (ts : List T) (o : Outcome T (List A)) → read_then (p s) (on s) cons ts ≡ o → starts class (first s) ts ≡ true
      → Front (Spelled s) (Spelled+ s) (ThenOpens (P s) (OP s) (RestOpens s)) (read_then (p s) (on s) cons) ts o → Front (Run P next s) (Run P+ next s) (SomeRunOpens P OP next s) (run s) ts o
  front-some s ts o pe b fr = record {
    dry = dry-some s ts o pe b fr.taken fr.split fr.dry;
    taken = fr.taken;
    split = fr.split;
    said = said-run s o fr.taken fr.said;
    local = λ t w z e. run-if s (fr.taken ++ t ∷ z) (starts-on class (first s) ts fr.taken t w z (fr.split ∙ ap (λ (v : List T). fr.taken ++ v) e) ∙ b) ∙ fr.local t w z e;
  }

  front-none : (s : S) (ts : List T) → starts class (first s) ts ≡ false → Front (Run P next s) (Run P+ next s) (SomeRunOpens P OP next s) (run s) ts (Read [] ts)
  front-none s ts b = record {
    taken = [];
    split = refl;
    said = refl;
    dry = tt;
    local = λ t w z e. run-if-not s (t ∷ z) (starts-on class (first s) ts [] t w z e ∙ b);
  }

  rest-none : (o : Option S) (z : List T) (vs : List A) → z ≡ [] → vs ≡ [] → goes o (λ t. Run P+ next t z vs) ((z ≡ []) × (vs ≡ []))
  rest-none None z vs e k = (e, k)
  rest-none (Some t) z vs e k = rw k e

  rest-some : (s : S) (a : A) → (x : List T) × (vs : List A) × Rest+ s a x vs
  rest-some s a = ([], [], rest-none (next s a) [] [] refl refl)

  abbrev FrontRun : S → List T → Outcome T (List A) → Type 0
  FrontRun s ts o = Front (Run P next s) (Run P+ next s) (SomeRunOpens P OP next s) (run s) ts o

  rest-front : (o : Option S) (y : List T) → ((t : S) → FrontRun t y (run t y))
      → Front (λ z vs. goes o (λ t. Run P next t z vs) ((z ≡ []) × (vs ≡ []))) (λ z vs. goes o (λ t. Run P+ next t z vs) ((z ≡ []) × (vs ≡ []))) (λ z. goes o (λ t. SomeRunOpens P OP next t z) ⊥) (λ z. goes_on o run z) y (goes_on o run y)
  rest-front None y g = record { taken = []; split = refl; said = (refl, refl); dry = tt; local = λ t w z e. refl }
  rest-front (Some t) y g = g t

  front-by : (s : S) (ts : List T) (b : Bool) → starts class (first s) ts ≡ b → ((t : S) (y : List T) → length y < length ts → FrontRun t y (run t y)) → FrontRun s ts (run s ts)
  front-by s ts false b g = let F : Outcome T (List A) → Type 0 = λ o. FrontRun s ts o in subst F (sym (run-if-not s ts b)) (front-none s ts b)
  front-by s ts true b g =
      let F : Outcome T (List A) → Type 0 = λ o. FrontRun s ts o in
      subst F (sym (run-if s ts b)) (front-some s ts (read_then (p s) (on s) cons ts) refl b
      (then-first (P s) (P+ s) (OP s) (p s) (Rest s) (Rest+ s) (RestOpens s) (on s) (rest-some s) (lp s).wider (whole-p s) cons ts (p s ts) ((lp s).front ts)
      (λ a y e. let G : Outcome T A → Type 0 = λ o. Front (P s) (P+ s) (OP s) (p s) ts o in
      rest-front (next s a) y (λ t. g t y (shorter s ts a y (subst G e ((lp s).front ts)))))))

  run-front : (n : ℕ) (s : S) (ts : List T) → length ts ≤ n → FrontRun s ts (run s ts)
  run-front zero s [] h = front-none s [] refl
  run-front zero s (t ∷ ts) h = absurd (omega arith)
  run-front (suc n) s ts h = front-by s ts (starts class (first s) ts) refl (λ t y short. run-front n t y (omega arith))

  goes-map : (X Y : S → Type 0) (U : Type 0) (o : Option S) → ((t : S) → X t → Y t) → goes o X U → goes o Y U
  goes-map X Y U None f h = h
  goes-map X Y U (Some t) f h = f t h

  run-wider : (vs : List A) (s : S) (x : List T) → Run P next s x vs → Run P+ next s x vs
  run-wider [] s x h = h
  run-wider (a ∷ vs) s x (y, z, e, h, m) = (y, z, e, (lp s).wider y a h, goes-map (λ t. Run P next t z vs) (λ t. Run P+ next t z vs) ((z ≡ []) × (vs ≡ [])) (next s a) (λ t k. run-wider vs t z k) m)

  run-begins : (s : S) (t : T) (x : List T) (vs : List A) → Run P+ next s (t ∷ x) vs → has (first s) (class t) ≡ true
  run-begins s t x [] h = absurd (cc)
  run-begins s t x (a ∷ vs) ([], z, e, h, m) = absurd (not_empty s a h)
  run-begins s t x (a ∷ vs) (u ∷ y, z, e, h, m) = let same : t ≡ u = cc in rw same ((lp s).begins u y a h)

  opens-begins : (vs : List A) (s : S) (t : T) (x : List T) → RunOpens P OP next s vs (t ∷ x) → has (first s) (class t) ≡ true
  opens-begins [] s t x o = (lp s).opens t x o
  opens-begins (a ∷ vs) s t x ([], z, e, h, m) = absurd (not_empty s a ((lp s).wider [] a h))
  opens-begins (a ∷ vs) s t x (u ∷ y, z, e, h, m) = let same : t ≡ u = cc in rw same ((lp s).begins u y a ((lp s).wider (u ∷ y) a h))

  ends-first : (s : S) (t : T) (ts : List T) → has (first s) (class t) ≡ true → ends class more (t ∷ ts) ≡ true
  ends-first s t ts h = ap not (apart_has all more (class t) aside (within-has (first s) all (class t) (inside s) h))

  starts-none : (s : S) (y : List T) → ends class (more ++ all) y ≡ true → starts class (first s) y ≡ false
  starts-none s [] e = refl
  starts-none s (t ∷ y) e = within-not (first s) all (class t) (inside s) (not_true (has all (class t)) (ends_right class more all (t ∷ y) e))

  starts-taken : (s : S) (x : List T) (a : A) (y : List T) → P s x a → starts class (first s) (x ++ y) ≡ true
  starts-taken s [] a y h = absurd (not_empty s a ((lp s).wider [] a h))
  starts-taken s (t ∷ x) a y h = (lp s).begins t x a ((lp s).wider (t ∷ x) a h)

  step-run : (s : S) (x1 x2 : List T) (a : A) (o : Outcome T (List A)) → P s x1 a → ends class more x2 ≡ true → on s a x2 ≡ o → run s (x1 ++ x2) ≡ after o (λ vs z. Read (a ∷ vs) z)
  step-run s x1 x2 a o h e m = run-if s (x1 ++ x2) (starts-taken s x1 a x2 h) ∙ rw ((lp s).again x1 a x2 h e, m) refl

  run-again : (vs : List A) (s : S) (x y : List T) → Run P next s x vs → ends class (more ++ all) y ≡ true → run s (x ++ y) ≡ Read vs y
  run-again [] s x y h e = rw h (run-if-not s y (starts-none s y e))
  run-again (a ∷ vs) s x y (x1, x2, q, h, m) e =
      rw (q, append_assoc x1 x2 y) (step-run s x1 (x2 ++ y) a (Read vs y) h (gap (next s a) x2 m) (by (next s a) m (λ t k. run-again vs t x2 y k e)))
    where
      gap : (o : Option S) (x2 : List T) → goes o (λ t. Run P next t x2 vs) ((x2 ≡ []) × (vs ≡ [])) → ends class more (x2 ++ y) ≡ true
      gap o [] m = ends_left class more all y e
      gap None (t ∷ x2) m = absurd (cc (m.0))
      gap (Some t) (u ∷ x2) m = ends-first t u (x2 ++ y) (run-begins t u x2 vs (run-wider vs t (u ∷ x2) m))

      by : (o : Option S) → goes o (λ t. Run P next t x2 vs) ((x2 ≡ []) × (vs ≡ [])) → ((t : S) → Run P next t x2 vs → run t (x2 ++ y) ≡ Read vs y) → goes_on o run (x2 ++ y) ≡ Read vs y
      by None m g = rw (m.0, m.1) refl
      by (Some t) m g = g t m

  gap-opened : (s : S) (x before : List T) (t : T) (y : List T) → x ≡ before ++ t ∷ [] → ((u : T) (v : List T) → x ≡ u ∷ v → has (first s) (class u) ≡ true) → ends class more (before ++ t ∷ y) ≡ true
  gap-opened s x [] t y e h = ends-first s t y (h t [] e)
  gap-opened s x (u ∷ before) t y e h = ends-first s u (before ++ t ∷ y) (h u (before ++ t ∷ []) e)

  run-deep : (vs : List A) (s : S) (x : List T) → RunOpens P OP next s vs x → Opened (run s) x
  run-deep [] s x o =
      let d = (lp s).deep x o in
      record {
        before = d.before;
        opener = d.opener;
        split = d.split;
        is_deep = λ w. run-if s (d.before ++ d.opener ∷ w) (starts-opened class (first s) true x d.before d.opener w d.split (λ u v e. (lp s).opens u v (subst (OP s) e o))) ∙ rw (d.is_deep w) refl;
      }
  run-deep (a ∷ vs) s x (y, z, e, h, m) = by (next s a) refl m (λ t k. run-deep vs t z k)
    where
      by : (o : Option S) → next s a ≡ o → goes o (λ t. RunOpens P OP next t vs z) ⊥ → ((t : S) → RunOpens P OP next t vs z → Opened (run t) z) → Opened (run s) x
      by None k m g = absurd m
      by (Some t) k m g =
          let d = g t m in
          let R : List T → Type 0 = λ v. RunOpens P OP next t vs v in
          record {
            before = y ++ d.before;
            opener = d.opener;
            split = cc (append_assoc y d.before (d.opener ∷ []));
            is_deep = λ w. rw (append_assoc y d.before (d.opener ∷ w)) (step-run s y (d.before ++ d.opener ∷ w) a (Stuck TooDeep (d.opener ∷ w)) h
                (gap-opened t z d.before d.opener w d.split (λ u v q. opens-begins vs t u v (subst R q m))) (rw k (d.is_deep w)));
          }

  pub series-lawful : (s : S) → Lawful class (Run P next s) (Run P+ next s) (SomeRunOpens P OP next s) (run s) (series_sets (first s) more all)
  series-lawful s = record {
    front = λ ts. run-front (length ts) s ts (omega arith);
    again = λ x vs y m e. run-again vs s x y m e;
    deep = λ x o. run-deep o.0 s x o.1;
    wider = λ x vs h. run-wider vs s x h;
    some = ([], [], refl);
    begins = run-begins s;
    empty = λ vs m. refl;
    opens = λ t x o. opens-begins o.0 s t x o.1;
    accepts = λ t y h k. accepts-run s t y h (sym (run-if s (t ∷ y) h) ∙ k);
  }
