-- What `number_len` finds is a number of the grammar, and no longer front is one.
use Rattle.std.proofs.Common.{◌≡◌, ℕ, ◌+◌, ◌^◌, ◌<◌, ◌≤◌, true, false, eqb, ltb, max, ◌&&◌, List, [], ◌∷◌, ◌++◌, length, take, drop, refl, sym, ap, subst, ◌∙◌, inl, inr, append_assoc, append-nil, length-append, length-take, arith}
use Rattle.std.proofs.Math.Nat.{le-max_left, le-max_right}
use Rattle.std.proofs.lemmas.List.{take-append-drop}
use Rattle.std.proofs.lemmas.Bool.{cases_Bool, cases_lt, eqb-true, eq-eqb, lt-ltb, le-ltb, ltb-true, not-true}
use Rattle.std.specs.Char.{digit_value}
use Rattle.py_literals.specs.Grammar.{is_digit_of, base_of, Digits, next, parted, IsInteger, decimal, zeros, based, is_imaginary_mark, IsDigitPart, digits, IsExponent, plain, signed, IsPointFloat, fraction, whole_and_fraction, whole, IsFloat, point, digits_exponent, point_exponent, IsImaginary, of_float, of_digits, IsFloating, IsNumber}
use Rattle.py_literals.specs.Number.{digits_len, digit_part_len, float_len, decimal_len, lettered_len, behind_zero_len, based_len, number_len, integer_value, number_value, IsLongestNumber}
use Rattle.py_literals.specs.Number as NumberSpec
use Rattle.py_literals.specs.declared.number.NumberValue.TheVariants.{Whole, Wide, Float}
use Rattle.py_literals.proofs.Digits.{Front, front_taken, front_within, and_left, and_right, digits_front, digits_max, part_max}
use Rattle.py_literals.proofs.Floats.{Suffix, bare, mark, exponent, exponent_mark, Behind, with_fraction, with_point, with_suffix, Shape, unled, led, shape_max, float_front}

-- the grammar's floating point and imaginary numbers are those shapes

exponent_long : {x : List ℕ} → IsExponent x → 0 < length x
exponent_long (plain t d) = omega arith
exponent_long (signed t u d) = omega arith

regroup : (P : List ℕ → Type 0) (a b c : List ℕ) → P ((a ++ b) ++ c) → P (a ++ (b ++ c))
regroup P a b c h = subst P (append_assoc a b c) h

ungroup : (P : List ℕ → Type 0) (a b c : List ℕ) → P (a ++ (b ++ c)) → P ((a ++ b) ++ c)
ungroup P a b c h = subst P (sym (append_assoc a b c)) h

point_suffix : {p s : List ℕ} → IsPointFloat p → Suffix s → IsFloating (p ++ s)
point_suffix {p} hp bare = subst IsFloating (sym (append-nil p)) (inl (point hp))
point_suffix hp (mark j t) = inr (of_float j (point hp) t)
point_suffix hp (exponent he) = inl (point_exponent hp he)
point_suffix {p} hp (exponent_mark {es = es} j he t) = regroup IsFloating p es (j ∷ []) (inr (of_float j (point_exponent hp he) t))

digits_suffix : {ds s : List ℕ} → IsDigitPart ds → 0 < length s → Suffix s → IsFloating (ds ++ s)
digits_suffix hd l bare = absurd (omega arith)
digits_suffix hd l (mark j t) = inr (of_digits j hd t)
digits_suffix hd l (exponent he) = inl (digits_exponent hd he)
digits_suffix {ds} hd l (exponent_mark {es = es} j he t) = regroup IsFloating ds es (j ∷ []) (inr (of_float j (digits_exponent hd he) t))

unled_floating : {z : List ℕ} → Behind false z → IsFloating z
unled_floating (with_fraction hd hs) = point_suffix (fraction hd) hs

led_floating : {ds z : List ℕ} → IsDigitPart ds → Behind true z → IsFloating (ds ++ z)
led_floating {ds} ha (with_fraction {ds = es} {s = s} hd hs) = regroup IsFloating ds (46 ∷ es) s (point_suffix (whole_and_fraction ha hd) hs)
led_floating {ds} ha (with_point {s = s} hs) = regroup IsFloating ds (46 ∷ []) s (point_suffix (whole ha) hs)
led_floating ha (with_suffix l hs) = digits_suffix ha l hs

shape_floating : {x : List ℕ} → Shape x → IsFloating x
shape_floating (unled h) = unled_floating h
shape_floating (led hd h) = led_floating hd h

point_shape : {p s : List ℕ} → IsPointFloat p → Suffix s → Shape (p ++ s)
point_shape (fraction hd) hs = unled (with_fraction hd hs)
point_shape {p} {s} (whole_and_fraction {ds = ds} {es = es} ha hd) hs = ungroup Shape ds (46 ∷ es) s (led ha (with_fraction hd hs))
point_shape {p} {s} (whole {ds = ds} ha) hs = ungroup Shape ds (46 ∷ []) s (led ha (with_point hs))

float_shape : {x : List ℕ} → IsFloat x → Shape x
float_shape {x} (point hp) = subst Shape (append-nil x) (point_shape hp bare)
float_shape (digits_exponent hd he) = led hd (with_suffix (exponent_long he) (exponent he))
float_shape (point_exponent hp he) = point_shape hp (exponent he)

marked_shape : {x : List ℕ} (j : ℕ) → is_imaginary_mark j ≡ true → IsFloat x → Shape (x ++ j ∷ [])
marked_shape j t (point hp) = point_shape hp (mark j t)
marked_shape j t (digits_exponent {ds = ds} {es = es} hd he) =
    let l : 0 < length (es ++ j ∷ []) = omega (arith, length-append es (j ∷ [])) in
    ungroup Shape ds es (j ∷ []) (led hd (with_suffix l (exponent_mark j he t)))
marked_shape j t (point_exponent {cs = cs} {es = es} hp he) = ungroup Shape cs es (j ∷ []) (point_shape hp (exponent_mark j he t))

imaginary_shape : {x : List ℕ} → IsImaginary x → Shape x
imaginary_shape (of_float j h t) = marked_shape j t h
imaginary_shape (of_digits j hd t) =
    let l : 0 < length (j ∷ []) = omega arith in
    led hd (with_suffix l (mark j t))

floating_shape : {x : List ℕ} → IsFloating x → Shape x
floating_shape (inl h) = float_shape h
floating_shape (inr h) = imaginary_shape h

-- integers

decimal_zeros : (cs : List ℕ) → decimal_len (48 ∷ cs) ≡ 1 + digits_len 1 cs
decimal_zeros cs = refl

decimal_other : (c : ℕ) (cs : List ℕ) → eqb c 48 ≡ false → decimal_len (c ∷ cs) ≡ digit_part_len (c ∷ cs)
decimal_other c cs t = rw t refl

lettered_is : (c : ℕ) (cs : List ℕ) → 0 < digits_len (base_of c) cs → lettered_len c cs ≡ 1 + digits_len (base_of c) cs
unfolding lettered_len
lettered_is c cs h = rw (lt-ltb 0 (digits_len (base_of c) cs) h) refl

lettered_none : (c : ℕ) (cs : List ℕ) → digits_len (base_of c) cs ≤ 0 → lettered_len c cs ≡ 0
unfolding lettered_len
lettered_none c cs h = rw (le-ltb 0 (digits_len (base_of c) cs) h) refl

based_is : (cs : List ℕ) → 0 < behind_zero_len cs → based_len (48 ∷ cs) ≡ 1 + behind_zero_len cs
based_is cs h = rw (lt-ltb 0 (behind_zero_len cs) h) refl

integer_max : {x : List ℕ} (y : List ℕ) → IsInteger x → length x ≤ max (based_len (x ++ y)) (decimal_len (x ++ y))
integer_max y (decimal {c = c} {cs = cs} t n h) =
    let m = part_max y (digits t h) in
    let d = decimal_other c (cs ++ y) (not-true (eqb c 48) n) in
    omega (arith, m, d, le-max_right (based_len (c ∷ (cs ++ y))) (decimal_len (c ∷ (cs ++ y))))
integer_max y (zeros {cs = cs} h) =
    let m = digits_max 1 y h in
    let d = decimal_zeros (cs ++ y) in
    omega (arith, m, d, le-max_right (based_len (48 ∷ (cs ++ y))) (decimal_len (48 ∷ (cs ++ y))))
integer_max y (based {c = c} {d = d} {ds = ds} b h) =
    let m = digits_max (base_of c) y h in
    let l = lettered_is c (d ∷ (ds ++ y)) (omega arith) in
    let e = based_is (c ∷ d ∷ (ds ++ y)) (omega arith) in
    omega (arith, m, l, e, le-max_left (based_len (48 ∷ c ∷ d ∷ (ds ++ y))) (decimal_len (48 ∷ c ∷ d ∷ (ds ++ y))))

base_some : (base c : ℕ) → is_digit_of base c ≡ true → 0 < base
unfolding is_digit_of
base_some base c t = omega (arith, ltb-true (digit_value c) base t)

based_digits : (c : ℕ) (w : List ℕ) → Digits (base_of c) w → 0 < length w → IsInteger (48 ∷ c ∷ w)
based_digits c [] h l = absurd (omega arith)
based_digits c (d ∷ []) (next t h) l = based (base_some (base_of c) d t) (next t h)
based_digits c (d ∷ e ∷ ds) (next t h) l = based (base_some (base_of c) d t) (next t h)
based_digits c (d ∷ e ∷ ds) (parted t h) l = based (base_some (base_of c) e t) (parted t h)

lettered_front : (c : ℕ) (cs : List ℕ) → 0 < lettered_len c cs → Front IsInteger (48 ∷ c ∷ cs) (1 + lettered_len c cs)
lettered_front c cs h =
    elim (cases_lt 0 (digits_len (base_of c) cs)) [
      | inl l ↦
          let f = digits_front (base_of c) cs in
          let e = lettered_is c cs l in
          record { front = 48 ∷ c ∷ f.front; rest = f.rest; parts = ap (λ ds. 48 ∷ c ∷ ds) f.parts; len = omega (arith, f.len, e); is = based_digits c f.front f.is (omega (arith, f.len)) }
      | inr l ↦ absurd (omega (arith, lettered_none c cs l))
    ]

zero_front : (cs : List ℕ) → 0 < behind_zero_len cs → Front IsInteger (48 ∷ cs) (1 + behind_zero_len cs)
zero_front [] h = absurd (omega arith)
zero_front (c ∷ cs) h = lettered_front c cs h

based_front : (cs : List ℕ) → 0 < based_len cs → Front IsInteger cs (based_len cs)
based_front [] h = absurd (omega arith)
based_front (c ∷ cs) h =
    elim (cases_Bool (eqb c 48 && ltb 0 (behind_zero_len cs))) [
      | inl u ↦
          let z : c ≡ 48 = eqb-true c 48 (and_left (eqb c 48) (ltb 0 (behind_zero_len cs)) u) in
          let l = ltb-true 0 (behind_zero_len cs) (and_right (eqb c 48) (ltb 0 (behind_zero_len cs)) u) in
          rw u (rw z (zero_front cs l))
      | inr u ↦
          let n : based_len (c ∷ cs) ≡ 0 = rw u refl in
          absurd (omega arith)
    ]

plain_front : (c : ℕ) (cs : List ℕ) → eqb c 48 ≡ false → 0 < digit_part_len (c ∷ cs) → Front IsInteger (c ∷ cs) (digit_part_len (c ∷ cs))
plain_front c cs u l =
    elim (cases_Bool (is_digit_of 10 c)) [
      | inl t ↦ rw t (let f = digits_front 10 cs in
          record { front = c ∷ f.front; rest = f.rest; parts = ap (λ ds. c ∷ ds) f.parts; len = omega (arith, f.len); is = decimal t (rw u refl) f.is })
      | inr t ↦
          let n : digit_part_len (c ∷ cs) ≡ 0 = rw t refl in
          absurd (omega arith)
    ]

decimal_front : (cs : List ℕ) → 0 < decimal_len cs → Front IsInteger cs (decimal_len cs)
decimal_front [] h = absurd (omega arith)
decimal_front (c ∷ cs) h =
    elim (cases_Bool (eqb c 48)) [
      | inl u ↦
          let f = digits_front 1 cs in
          rw u (rw (eqb-true c 48 u) (record { front = 48 ∷ f.front; rest = f.rest; parts = ap (λ ds. 48 ∷ ds) f.parts; len = omega (arith, f.len); is = zeros f.is }))
      | inr u ↦
          let e = decimal_other c cs u in
          rw e (plain_front c cs u (omega (arith, e)))
    ]

-- all of them

max_is : (P : ℕ → Type 0) (a b : ℕ) → 0 < max a b → (0 < a → P a) → (0 < b → P b) → P (max a b)
max_is P a b h f g =
    elim (cases_lt a b) [
      | inl l ↦ let e : max a b ≡ b = omega arith in subst P (sym e) (g (omega arith))
      | inr l ↦ let e : max a b ≡ a = omega arith in subst P (sym e) (f (omega arith))
    ]

number_front : (cs : List ℕ) → 0 < number_len cs → IsNumber (take (number_len cs) cs)
number_front cs h =
    max_is (λ n. IsNumber (take n cs)) (based_len cs) (max (decimal_len cs) (float_len cs)) h
    (λ b. inl (front_taken cs (based_len cs) (based_front cs b)))
    (λ r. max_is (λ n. IsNumber (take n cs)) (decimal_len cs) (float_len cs) r
    (λ d. inl (front_taken cs (decimal_len cs) (decimal_front cs d)))
    (λ f. inr (shape_floating (front_taken cs (float_len cs) (float_front cs f)))))

number_within : (cs : List ℕ) → 0 < number_len cs → number_len cs ≤ length cs
number_within cs h =
    max_is (λ n. n ≤ length cs) (based_len cs) (max (decimal_len cs) (float_len cs)) h
    (λ b. front_within cs (based_len cs) (based_front cs b))
    (λ r. max_is (λ n. n ≤ length cs) (decimal_len cs) (float_len cs) r
    (λ d. front_within cs (decimal_len cs) (decimal_front cs d))
    (λ f. front_within cs (float_len cs) (float_front cs f)))

number_max : {x : List ℕ} (y : List ℕ) → IsNumber x → length x ≤ number_len (x ++ y)
number_max {x} y (inl h) = omega (arith, integer_max y h)
number_max {x} y (inr h) = omega (arith, shape_max y (floating_shape h))

whole_other : (v : ℕ) → NumberSpec.whole v ≡ Float → ⊥
whole_other v e = elim (cases_Bool (ltb v (2 ^ 127))) [
  | inl t ↦ let w : NumberSpec.whole v ≡ Whole v = rw t refl in cc
  | inr t ↦ let w : NumberSpec.whole v ≡ Wide = rw t refl in cc
]

float_value : (cs : List ℕ) → number_value cs ≡ Float → float_len cs ≡ number_len cs
float_value cs e =
    elim (cases_Bool (eqb (float_len cs) (number_len cs))) [
      | inl t ↦ eqb-true (float_len cs) (number_len cs) t
      | inr t ↦
          let w : number_value cs ≡ NumberSpec.whole (integer_value (take (number_len cs) cs)) = rw t refl in
          absurd (whole_other (integer_value (take (number_len cs) cs)) (sym w ∙ e))
    ]

value_float : (cs : List ℕ) → float_len cs ≡ number_len cs → number_value cs ≡ Float
value_float cs e =
    let t = eq-eqb (float_len cs) (number_len cs) e in
    rw t refl

floating_front : (cs : List ℕ) → 0 < number_len cs → number_value cs ≡ Float → IsFloating (take (number_len cs) cs)
floating_front cs h e =
    let same = float_value cs e in
    subst (λ n. IsFloating (take n cs)) same (shape_floating (front_taken cs (float_len cs) (float_front cs (omega arith))))

integer_front : (cs : List ℕ) → 0 < number_len cs → (number_value cs ≡ Float → ⊥) → IsInteger (take (number_len cs) cs)
integer_front cs h other =
    max_is (λ n. n ≡ number_len cs → IsInteger (take n cs)) (based_len cs) (max (decimal_len cs) (float_len cs)) h
    (λ b e. front_taken cs (based_len cs) (based_front cs b))
    (λ r. max_is (λ n. n ≡ number_len cs → IsInteger (take n cs)) (decimal_len cs) (float_len cs) r
    (λ d e. front_taken cs (decimal_len cs) (decimal_front cs d))
    (λ f e. absurd (other (value_float cs e))))
    refl

pub longest_number : (cs : List ℕ) → IsLongestNumber cs
longest_number cs = record {
  within = elim (cases_lt 0 (number_len cs)) [ inl h ↦ number_within cs h | inr h ↦ omega arith ];
  spelled = number_front cs;
  floating = floating_front cs;
  integer = integer_front cs;
  longest = λ n short h.
      let e = take-append-drop n cs in
      let m = number_max (drop n cs) h in
      let l = length-take n cs in
      omega (arith, m, l, ap number_len e);
}
