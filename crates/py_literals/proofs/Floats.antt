-- Floating point and imaginary numbers: `float_len` is their longest front.
use Rattle.std.proofs.Common.{◌≡◌, ℕ, suc, ◌+◌, ◌<◌, ◌≤◌, Bool, true, false, eqb, ltb, ◌&&◌, ◌||◌, ◌⊎◌, List, [], ◌∷◌, ◌++◌, length, drop, refl, sym, ap, subst, ◌∙◌, inl, inr, append_assoc, length-append, arith}
use Rattle.std.proofs.Math.Seq.{drop-append_seam}
use Rattle.std.proofs.lemmas.Bool.{cases_Bool, cases_lt, or_cases, eqb-true, lt-ltb, le-ltb, ltb-true, false≢true}
use Rattle.py_literals.specs.Grammar.{is_digit_of, is_exponent_mark, is_sign, is_imaginary_mark, IsDigitPart, digits, IsExponent, plain, signed}
use Rattle.py_literals.specs.Number.{digit_part_len, fraction_len, signed_len, exponent_len, imaginary_len, suffix_len, behind_digits_len, float_len}
use Rattle.py_literals.proofs.Digits.{Front, front_dropped, joined, Stops, and_left, and_right, part_front, part_max, part_exact, part_stops, part_some}

-- characters

pub imaginary_stops : (j : ℕ) (y : List ℕ) → is_imaginary_mark j ≡ true → Stops 10 (j ∷ y)
unfolding is_digit_of
imaginary_stops j y t = elim (or_cases (eqb j 106) (eqb j 74) t) [ inl u ↦ rw (eqb-true j 106 u) (refl, refl) | inr u ↦ rw (eqb-true j 74 u) (refl, refl) ]

imaginary_no_exponent : (j : ℕ) → is_imaginary_mark j ≡ true → is_exponent_mark j ≡ false
imaginary_no_exponent j t = elim (or_cases (eqb j 106) (eqb j 74) t) [ inl u ↦ rw (eqb-true j 106 u) refl | inr u ↦ rw (eqb-true j 74 u) refl ]

imaginary_no_point : (j : ℕ) → is_imaginary_mark j ≡ true → eqb j 46 ≡ false
imaginary_no_point j t = elim (or_cases (eqb j 106) (eqb j 74) t) [ inl u ↦ rw (eqb-true j 106 u) refl | inr u ↦ rw (eqb-true j 74 u) refl ]

exponent_stops : (e : ℕ) (y : List ℕ) → is_exponent_mark e ≡ true → Stops 10 (e ∷ y)
unfolding is_digit_of
exponent_stops e y t = elim (or_cases (eqb e 101) (eqb e 69) t) [ inl u ↦ rw (eqb-true e 101 u) (refl, refl) | inr u ↦ rw (eqb-true e 69 u) (refl, refl) ]

exponent_no_point : (e : ℕ) → is_exponent_mark e ≡ true → eqb e 46 ≡ false
exponent_no_point e t = elim (or_cases (eqb e 101) (eqb e 69) t) [ inl u ↦ rw (eqb-true e 101 u) refl | inr u ↦ rw (eqb-true e 69 u) refl ]

sign_no_digit : (c : ℕ) → is_sign c ≡ true → is_digit_of 10 c ≡ false
unfolding is_digit_of
sign_no_digit c t = elim (or_cases (eqb c 43) (eqb c 45) t) [ inl u ↦ rw (eqb-true c 43 u) refl | inr u ↦ rw (eqb-true c 45 u) refl ]

digit_no_sign : (c : ℕ) → is_digit_of 10 c ≡ true → is_sign c ≡ false
digit_no_sign c t = elim (cases_Bool (is_sign c)) [ inl u ↦ absurd (false≢true (sym (sign_no_digit c u) ∙ t)) | inr u ↦ u ]

pub point_stops : (y : List ℕ) → Stops 10 (46 ∷ y)
unfolding is_digit_of
point_stops y = (refl, refl)

-- exponents

signed_digits : (c : ℕ) (cs : List ℕ) → is_digit_of 10 c ≡ true → signed_len (c ∷ cs) ≡ digit_part_len (c ∷ cs)
signed_digits c cs t = rw (digit_no_sign c t) refl

signed_part : {x : List ℕ} (y : List ℕ) → IsDigitPart x → signed_len (x ++ y) ≡ digit_part_len (x ++ y)
signed_part y (digits {c = c} {cs = cs} t h) = signed_digits c (cs ++ y) t

signed_sign : (c : ℕ) (cs : List ℕ) → is_sign c ≡ true → 0 < digit_part_len cs → signed_len (c ∷ cs) ≡ 1 + digit_part_len cs
signed_sign c cs t h = rw (t, lt-ltb 0 (digit_part_len cs) h) refl

exponent_some : (e : ℕ) (cs : List ℕ) → is_exponent_mark e ≡ true → 0 < signed_len cs → exponent_len (e ∷ cs) ≡ 1 + signed_len cs
exponent_some e cs t h = rw (t, lt-ltb 0 (signed_len cs) h) refl

pub exponent_max : {x : List ℕ} (y : List ℕ) → IsExponent x → length x ≤ exponent_len (x ++ y)
exponent_max y (plain {e = e} {ds = ds} t d) =
    let m = part_max y d in
    let s = signed_part y d in
    let p = part_some d in
    omega (arith, exponent_some e (ds ++ y) t (omega arith))
exponent_max y (signed {e = e} {s = s} {ds = ds} t u d) =
    let m = part_max y d in
    let p = part_some d in
    let g = signed_sign s (ds ++ y) u (omega arith) in
    omega (arith, exponent_some e (s ∷ (ds ++ y)) t (omega arith))

pub exponent_exact : {x : List ℕ} (y : List ℕ) → Stops 10 y → IsExponent x → exponent_len (x ++ y) ≡ length x
exponent_exact y st (plain {e = e} {ds = ds} t d) =
    let m = part_exact y st d in
    let s = signed_part y d in
    let p = part_some d in
    omega (arith, exponent_some e (ds ++ y) t (omega arith))
exponent_exact y st (signed {e = e} {s = s} {ds = ds} t u d) =
    let m = part_exact y st d in
    let p = part_some d in
    let g = signed_sign s (ds ++ y) u (omega arith) in
    omega (arith, exponent_some e (s ∷ (ds ++ y)) t (omega arith))

exponent_long : {x : List ℕ} → IsExponent x → 0 < length x
exponent_long (plain t d) = omega arith
exponent_long (signed t u d) = omega arith

signed_front : (e : ℕ) (cs : List ℕ) → is_exponent_mark e ≡ true → 0 < signed_len cs → Front (λ x. IsExponent (e ∷ x)) cs (signed_len cs)
signed_front e [] t h = absurd (omega arith)
signed_front e (c ∷ cs) t h =
    elim (cases_Bool (is_sign c)) [
      | inl u ↦ elim (cases_lt 0 (digit_part_len cs)) [
        | inl l ↦
            let f = part_front cs l in
            rw (signed_sign c cs u l) (record { front = c ∷ f.front; rest = f.rest; parts = ap (λ ds. c ∷ ds) f.parts; len = omega (arith, f.len); is = signed t u f.is })
        | inr l ↦
            let none : signed_len (c ∷ cs) ≡ 0 = rw (u, le-ltb 0 (digit_part_len cs) l) refl in
            absurd (omega arith)
      ]
      | inr u ↦
          let same : signed_len (c ∷ cs) ≡ digit_part_len (c ∷ cs) = rw u refl in
          let f = part_front (c ∷ cs) (omega arith) in
          rw same (record { front = f.front; rest = f.rest; parts = f.parts; len = f.len; is = plain t f.is })
    ]

pub exponent_front : (cs : List ℕ) → 0 < exponent_len cs → Front IsExponent cs (exponent_len cs)
exponent_front [] h = absurd (omega arith)
exponent_front (e ∷ cs) h =
    elim (cases_Bool (is_exponent_mark e && ltb 0 (signed_len cs))) [
      | inl u ↦
          let f = signed_front e cs (and_left (is_exponent_mark e) (ltb 0 (signed_len cs)) u) (ltb-true 0 (signed_len cs) (and_right (is_exponent_mark e) (ltb 0 (signed_len cs)) u)) in
          rw u (record { front = e ∷ f.front; rest = f.rest; parts = ap (λ ds. e ∷ ds) f.parts; len = omega (arith, f.len); is = f.is })
      | inr u ↦
          let none : exponent_len (e ∷ cs) ≡ 0 = rw u refl in
          absurd (omega arith)
    ]

-- suffixes: [exponent] ["j" | "J"]

pub data Suffix : List ℕ → Type 0 where
  bare : Suffix []
  mark : (j : ℕ) → is_imaginary_mark j ≡ true → Suffix (j ∷ [])
  exponent : {es : List ℕ} → IsExponent es → Suffix es
  exponent_mark : {es : List ℕ} (j : ℕ) → IsExponent es → is_imaginary_mark j ≡ true → Suffix (es ++ j ∷ [])

no_exponent : (c : ℕ) (y : List ℕ) → is_exponent_mark c ≡ false → exponent_len (c ∷ y) ≡ 0
no_exponent c y t = rw t refl

suffix_mark : (j : ℕ) (y : List ℕ) → is_imaginary_mark j ≡ true → suffix_len (j ∷ y) ≡ 1
suffix_mark j y t = rw (no_exponent j y (imaginary_no_exponent j t), t) refl

suffix_exponent_mark : {es : List ℕ} (j : ℕ) (y : List ℕ) → IsExponent es → is_imaginary_mark j ≡ true → suffix_len (es ++ j ∷ y) ≡ length es + 1
suffix_exponent_mark {es} j y h t = rw (exponent_exact (j ∷ y) (imaginary_stops j y t) h, drop-append_seam es (j ∷ y), t) refl

pub suffix_max : {s : List ℕ} (y : List ℕ) → Suffix s → length s ≤ suffix_len (s ++ y)
suffix_max y bare = omega arith
suffix_max y (mark j t) = omega (arith, suffix_mark j y t)
suffix_max y (exponent h) = omega (arith, exponent_max y h)
suffix_max y (exponent_mark {es = es} j h t) =
    rw (append_assoc es (j ∷ []) y) (omega (arith, suffix_exponent_mark j y h t, length-append es (j ∷ [])))

pub suffix_stops : {s : List ℕ} (y : List ℕ) → Suffix s → 0 < length s → Stops 10 (s ++ y)
suffix_stops y bare l = absurd (omega arith)
suffix_stops y (mark j t) l = imaginary_stops j y t
suffix_stops y (exponent (plain {e = e} {ds = ds} t d)) l = exponent_stops e (ds ++ y) t
suffix_stops y (exponent (signed {e = e} {s = s} {ds = ds} t u d)) l = exponent_stops e (s ∷ (ds ++ y)) t
suffix_stops y (exponent_mark j (plain {e = e} {ds = ds} t d) u) l = exponent_stops e ((ds ++ j ∷ []) ++ y) t
suffix_stops y (exponent_mark j (signed {e = e} {s = s} {ds = ds} t v d) u) l = exponent_stops e (s ∷ ((ds ++ j ∷ []) ++ y)) t

no_fraction : (led : Bool) (c : ℕ) (cs : List ℕ) → eqb c 46 ≡ false → fraction_len led (c ∷ cs) ≡ 0
no_fraction led c cs t = rw t refl

pub suffix_no_fraction : {s : List ℕ} (led : Bool) (y : List ℕ) → Suffix s → 0 < length s → fraction_len led (s ++ y) ≡ 0
suffix_no_fraction led y bare l = absurd (omega arith)
suffix_no_fraction led y (mark j t) l = no_fraction led j y (imaginary_no_point j t)
suffix_no_fraction led y (exponent (plain {e = e} {ds = ds} t d)) l = no_fraction led e (ds ++ y) (exponent_no_point e t)
suffix_no_fraction led y (exponent (signed {e = e} {s = s} {ds = ds} t u d)) l = no_fraction led e (s ∷ (ds ++ y)) (exponent_no_point e t)
suffix_no_fraction led y (exponent_mark j (plain {e = e} {ds = ds} t d) u) l = no_fraction led e ((ds ++ j ∷ []) ++ y) (exponent_no_point e t)
suffix_no_fraction led y (exponent_mark j (signed {e = e} {s = s} {ds = ds} t v d) u) l = no_fraction led e (s ∷ ((ds ++ j ∷ []) ++ y)) (exponent_no_point e t)

-- the mark at the front, if one is there
record Marked (cs : List ℕ) : Type 0 where
  pub letter : ℕ
  pub rest : List ℕ
  pub parts : cs ≡ letter ∷ rest
  pub is : is_imaginary_mark letter ≡ true
  pub one : imaginary_len cs ≡ 1

marked : (cs : List ℕ) → (imaginary_len cs ≡ 0) ⊎ Marked cs
marked [] = inl refl
marked (c ∷ cs) =
    elim (cases_Bool (is_imaginary_mark c)) [
      | inl t ↦ inr (record { letter = c; rest = cs; parts = refl; is = t; one = rw t refl })
      | inr t ↦ inl (rw t refl)
    ]

behind_exponent : (cs : List ℕ) → (f : Front IsExponent cs (exponent_len cs)) → Front Suffix cs (suffix_len cs)
behind_exponent cs f =
    let d = front_dropped cs (exponent_len cs) f in
    elim (marked f.rest) [
      | inl z ↦
          let e : imaginary_len (drop (exponent_len cs) cs) ≡ 0 = ap (λ r. imaginary_len r) d ∙ z in
          record { front = f.front; rest = f.rest; parts = f.parts; len = omega (arith, f.len, e); is = exponent f.is }
      | inr m ↦
          let e : imaginary_len (drop (exponent_len cs) cs) ≡ 1 = ap (λ r. imaginary_len r) d ∙ m.one in
          record {
            front = f.front ++ m.letter ∷ [];
            rest = m.rest;
            parts = f.parts ∙ ap (λ r. f.front ++ r) m.parts ∙ sym (append_assoc f.front (m.letter ∷ []) m.rest);
            len = omega (arith, length-append f.front (m.letter ∷ []), f.len, e);
            is = exponent_mark m.letter f.is m.is;
          }
    ]

pub suffix_front : (cs : List ℕ) → Front Suffix cs (suffix_len cs)
suffix_front cs =
    elim (cases_lt 0 (exponent_len cs)) [
      | inl l ↦ behind_exponent cs (exponent_front cs l)
      | inr l ↦
          let z : exponent_len cs ≡ 0 = omega arith in
          let d : drop (exponent_len cs) cs ≡ cs = ap (λ n. drop n cs) z in
          elim (marked cs) [
            | inl n ↦
                let e : imaginary_len (drop (exponent_len cs) cs) ≡ 0 = ap (λ r. imaginary_len r) d ∙ n in
                record { front = []; rest = cs; parts = refl; len = omega (arith, e); is = bare }
            | inr m ↦
                let e : imaginary_len (drop (exponent_len cs) cs) ≡ 1 = ap (λ r. imaginary_len r) d ∙ m.one in
                record { front = m.letter ∷ []; rest = m.rest; parts = m.parts; len = omega (arith, e); is = mark m.letter m.is }
          ]
    ]

-- what may follow digits, or where none lead: a fraction and a suffix

pub data Fraction : Bool → List ℕ → Type 0 where
  parts : {led : Bool} {ds : List ℕ} → IsDigitPart ds → Fraction led (46 ∷ ds)
  alone : Fraction true (46 ∷ [])

pub data Behind : Bool → List ℕ → Type 0 where
  with_fraction : {led : Bool} {ds s : List ℕ} → IsDigitPart ds → Suffix s → Behind led (46 ∷ (ds ++ s))
  with_point : {s : List ℕ} → Suffix s → Behind true (46 ∷ s)
  with_suffix : {s : List ℕ} → 0 < length s → Suffix s → Behind true s

fraction_parts : (led : Bool) (cs : List ℕ) → 0 < digit_part_len cs → fraction_len led (46 ∷ cs) ≡ 1 + digit_part_len cs
fraction_parts true cs h = refl
fraction_parts false cs h = rw (lt-ltb 0 (digit_part_len cs) h) refl

behind_is : (n f : ℕ) (cs : List ℕ) → fraction_len (ltb 0 n) cs ≡ f → 0 < n + f → behind_digits_len n cs ≡ f + suffix_len (drop f cs)
behind_is n f cs e h = rw (e, lt-ltb 0 (n + f) h) refl

behind_none : (n f : ℕ) (cs : List ℕ) → fraction_len (ltb 0 n) cs ≡ f → n + f ≡ 0 → behind_digits_len n cs ≡ 0
behind_none n f cs e h = rw (e, h) refl

drop_past : (k c : ℕ) (cs : List ℕ) → drop (1 + k) (c ∷ cs) ≡ drop k cs
drop_past k c cs =
    let e : 1 + k ≡ suc k = omega arith in
    rw e refl

fraction_max : (n : ℕ) {ds s : List ℕ} (y : List ℕ) → IsDigitPart ds → Suffix s → 1 + (length ds + length s) ≤ behind_digits_len n (46 ∷ (ds ++ (s ++ y)))
fraction_max n {ds} {s} y hd hs =
    elim (cases_lt 0 (length s)) [
      | inl l ↦
          let exact = part_exact (s ++ y) (suffix_stops y hs l) hd in
          let some = part_some hd in
          let f : fraction_len (ltb 0 n) (46 ∷ (ds ++ (s ++ y))) ≡ 1 + length ds = fraction_parts (ltb 0 n) (ds ++ (s ++ y)) (omega arith) ∙ ap (λ k. 1 + k) exact in
          let d : drop (1 + length ds) (46 ∷ (ds ++ (s ++ y))) ≡ s ++ y = drop_past (length ds) 46 (ds ++ (s ++ y)) ∙ drop-append_seam ds (s ++ y) in
          let b = behind_is n (1 + length ds) (46 ∷ (ds ++ (s ++ y))) f (omega arith) ∙ ap (λ r. (1 + length ds) + suffix_len r) d in
          omega (arith, b, suffix_max y hs)
      | inr l ↦
          let long = part_max (s ++ y) hd in
          let some = part_some hd in
          let f = fraction_parts (ltb 0 n) (ds ++ (s ++ y)) (omega arith) in
          let b = behind_is n (1 + digit_part_len (ds ++ (s ++ y))) (46 ∷ (ds ++ (s ++ y))) f (omega arith) in
          omega (arith, b)
    ]

point_max : (n : ℕ) {s : List ℕ} (y : List ℕ) → 0 < n → Suffix s → 1 + length s ≤ behind_digits_len n (46 ∷ (s ++ y))
point_max n {s} y led hs =
    let f : fraction_len (ltb 0 n) (46 ∷ (s ++ y)) ≡ 1 + digit_part_len (s ++ y) = rw (lt-ltb 0 n led) refl in
    let b = behind_is n (1 + digit_part_len (s ++ y)) (46 ∷ (s ++ y)) f (omega arith) in
    elim (cases_lt 0 (length s)) [
      | inl l ↦
          let z = part_stops (s ++ y) (suffix_stops y hs l) in
          let d : drop (1 + digit_part_len (s ++ y)) (46 ∷ (s ++ y)) ≡ s ++ y = ap (λ k. drop (1 + k) (46 ∷ (s ++ y))) z in
          omega (arith, b, ap (λ r. suffix_len r) d, suffix_max y hs)
      | inr l ↦ omega (arith, b)
    ]

lone_suffix_max : (n : ℕ) {s : List ℕ} (y : List ℕ) → 0 < n → 0 < length s → Suffix s → length s ≤ behind_digits_len n (s ++ y)
lone_suffix_max n {s} y led l hs =
    let b = behind_is n 0 (s ++ y) (suffix_no_fraction (ltb 0 n) y hs l) (omega arith) in
    omega (arith, b, suffix_max y hs)

-- what stands behind n digits is at most as long as is read there
pub behind_max : (n : ℕ) (led : Bool) {z : List ℕ} (y : List ℕ) → ltb 0 n ≡ led → Behind led z → length z ≤ behind_digits_len n (z ++ y)
behind_max n led y e (with_fraction {ds = ds} {s = s} hd hs) =
    rw (append_assoc ds s y) (omega (arith, fraction_max n y hd hs, length-append ds s))
behind_max n true y e (with_point {s = s} hs) = omega (arith, point_max n y (ltb-true 0 n e) hs)
behind_max n true y e (with_suffix l hs) = lone_suffix_max n y (ltb-true 0 n e) l hs

behind_stops : {z : List ℕ} (led : Bool) (y : List ℕ) → Behind led z → Stops 10 (z ++ y)
behind_stops led y (with_fraction {ds = ds} {s = s} hd hs) = point_stops ((ds ++ s) ++ y)
behind_stops true y (with_point {s = s} hs) = point_stops (s ++ y)
behind_stops true y (with_suffix l hs) = suffix_stops y hs l

behind_long : {z : List ℕ} (led : Bool) → Behind led z → 0 < length z
behind_long led (with_fraction hd hs) = omega arith
behind_long true (with_point hs) = omega arith
behind_long true (with_suffix l hs) = l

-- the fraction at the front
fraction_front : (led : Bool) (cs : List ℕ) → 0 < fraction_len led cs → Front (Fraction led) cs (fraction_len led cs)
fraction_front led [] h = absurd (omega arith)
fraction_front led (c ∷ cs) h =
    elim (cases_Bool (eqb c 46 && (led || ltb 0 (digit_part_len cs)))) [
      | inl u ↦
          let point : c ≡ 46 = eqb-true c 46 (and_left (eqb c 46) (led || ltb 0 (digit_part_len cs)) u) in
          rw u (rw point (elim (cases_lt 0 (digit_part_len cs)) [
            | inl l ↦
                let f = part_front cs l in
                record { front = 46 ∷ f.front; rest = f.rest; parts = ap (λ ds. 46 ∷ ds) f.parts; len = omega (arith, f.len); is = parts f.is }
            | inr l ↦
                let z : digit_part_len cs ≡ 0 = omega arith in
                let v = and_right (eqb c 46) (led || ltb 0 (digit_part_len cs)) u in
                let t : led ≡ true = elim (or_cases led (ltb 0 (digit_part_len cs)) v) [ inl w ↦ w | inr w ↦ absurd (omega (arith, ltb-true 0 (digit_part_len cs) w)) ] in
                record { front = 46 ∷ []; rest = cs; parts = refl; len = omega (arith, z); is = subst (λ (b : Bool). Fraction b (46 ∷ [])) (sym t) alone }
          ]))
      | inr u ↦
          let none : fraction_len led (c ∷ cs) ≡ 0 = rw u refl in
          absurd (omega arith)
    ]

fraction_suffix : {f s : List ℕ} (led : Bool) → Fraction led f → Suffix s → Behind led (f ++ s)
fraction_suffix led (parts hd) hs = with_fraction hd hs
fraction_suffix true alone hs = with_point hs

pub behind_front : (n : ℕ) (cs : List ℕ) → 0 < behind_digits_len n cs → Front (Behind (ltb 0 n)) cs (behind_digits_len n cs)
behind_front n cs h =
    elim (cases_lt 0 (fraction_len (ltb 0 n) cs)) [
      | inl l ↦
          let f = fraction_front (ltb 0 n) cs l in
          let d = front_dropped cs (fraction_len (ltb 0 n) cs) f in
          let g = suffix_front (drop (fraction_len (ltb 0 n) cs) cs) in
          rw (behind_is n (fraction_len (ltb 0 n) cs) cs refl (omega arith)) (joined cs (drop (fraction_len (ltb 0 n) cs) cs) _ _ f (sym d) g (fraction_suffix (ltb 0 n) f.is g.is))
      | inr l ↦
          let z : fraction_len (ltb 0 n) cs ≡ 0 = omega arith in
          elim (cases_lt 0 n) [
            | inl led ↦
                let e : behind_digits_len n cs ≡ suffix_len cs = behind_is n 0 cs z (omega arith) ∙ omega arith in
                let g = suffix_front cs in
                let t = lt-ltb 0 n led in
                rw (e, t) (record { front = g.front; rest = g.rest; parts = g.parts; len = g.len; is = with_suffix {s = g.front} (omega (arith, g.len)) g.is })
            | inr none ↦ absurd (omega (arith, behind_none n 0 cs z (omega arith)))
          ]
    ]

-- floating point and imaginary numbers, as digits and what follows them

pub data Shape : List ℕ → Type 0 where
  unled : {z : List ℕ} → Behind false z → Shape z
  led : {ds z : List ℕ} → IsDigitPart ds → Behind true z → Shape (ds ++ z)

float_is : (cs : List ℕ) (n m : ℕ) → digit_part_len cs ≡ n → behind_digits_len n (drop n cs) ≡ m → 0 < m → float_len cs ≡ n + m
float_is cs n m e f h = rw (e, f, lt-ltb 0 m h) refl

pub shape_max : {x : List ℕ} (y : List ℕ) → Shape x → length x ≤ float_len (x ++ y)
shape_max y (unled {z = z} h) =
    let m = behind_max 0 false y refl h in
    let l = behind_long false h in
    omega (arith, float_is (z ++ y) 0 (behind_digits_len 0 (z ++ y)) (part_stops (z ++ y) (behind_stops false y h)) refl (omega arith))
shape_max y (led {ds = ds} {z = z} hd h) =
    let e = part_exact (z ++ y) (behind_stops true y h) hd in
    let some = part_some hd in
    let d = drop-append_seam ds (z ++ y) in
    let m = behind_max (length ds) true y (lt-ltb 0 (length ds) (omega arith)) h in
    let l = behind_long true h in
    let f = float_is (ds ++ (z ++ y)) (length ds) (behind_digits_len (length ds) (z ++ y)) e (ap (λ r. behind_digits_len (length ds) r) d) (omega arith) in
    rw (append_assoc ds z y) (omega (arith, f, length-append ds z))

pub float_front : (cs : List ℕ) → 0 < float_len cs → Front Shape cs (float_len cs)
float_front cs h =
    let n = digit_part_len cs in
    let m = behind_digits_len n (drop n cs) in
    elim (cases_lt 0 m) [
      | inl l ↦
          let g = behind_front n (drop n cs) l in
          rw (float_is cs n m refl refl l) (elim (cases_lt 0 n) [
            | inl k ↦
                let f = part_front cs k in
                joined cs (drop n cs) n m f (sym (front_dropped cs n f)) g (led f.is (subst (λ (b : Bool). Behind b g.front) (lt-ltb 0 n k) g.is))
            | inr k ↦
                let z : n ≡ 0 = omega arith in
                let d : cs ≡ drop n cs = ap (λ j. drop j cs) (sym z) in
                record { front = g.front; rest = g.rest; parts = d ∙ g.parts; len = omega (arith, g.len); is = unled (subst (λ (b : Bool). Behind b g.front) (le-ltb 0 n k) g.is) }
          ])
      | inr l ↦
          let z : float_len cs ≡ 0 = rw (le-ltb 0 m l) refl in
          absurd (omega arith)
    ]
