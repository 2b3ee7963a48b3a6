-- Runs of digits: `digits_len` is the longest front of the form (["_"] digit)*.
use Rattle.std.proofs.Common.{◌≡◌, ℕ, ◌+◌, ◌<◌, ◌≤◌, Bool, true, false, eqb, ◌&&◌, List, [], ◌∷◌, ◌++◌, length, take, drop, refl, sym, ap, subst, ◌∙◌, inl, inr, append_assoc, length-append, arith}
use Rattle.std.proofs.Math.Seq.{take-append_seam, drop-append_seam}
use Rattle.std.proofs.lemmas.Bool.{cases_Bool, eqb-true}
use Rattle.py_literals.specs.Grammar.{is_digit_of, Digits, none, next, parted, IsDigitPart, digits}
use Rattle.py_literals.specs.Number.{digits_len, digit_part_len}

-- the first n of the characters, and that they are P
pub record Front (P : List ℕ → Type 0) (cs : List ℕ) (n : ℕ) : Type 0 where
  pub front : List ℕ
  pub rest : List ℕ
  pub parts : cs ≡ front ++ rest
  pub len : length front ≡ n
  pub is : P front

pub front_taken : {P : List ℕ → Type 0} (cs : List ℕ) (n : ℕ) → Front P cs n → P (take n cs)
front_taken {P} cs n f =
    let e : take n cs ≡ f.front = ap (λ m. take m cs) (sym f.len) ∙ ap (λ ds. take (length f.front) ds) f.parts ∙ take-append_seam f.front f.rest in
    subst P (sym e) f.is

pub front_within : {P : List ℕ → Type 0} (cs : List ℕ) (n : ℕ) → Front P cs n → n ≤ length cs
front_within cs n f = omega (arith, ap length f.parts, length-append f.front f.rest, f.len)

pub front_dropped : {P : List ℕ → Type 0} (cs : List ℕ) (n : ℕ) → (f : Front P cs n) → drop n cs ≡ f.rest
front_dropped cs n f = ap (λ m. drop m cs) (sym f.len) ∙ ap (λ ds. drop (length f.front) ds) f.parts ∙ drop-append_seam f.front f.rest

-- two fronts, one behind the other
pub joined : {P Q R : List ℕ → Type 0} (cs ds : List ℕ) (k m : ℕ) → (f : Front P cs k) → f.rest ≡ ds → (g : Front Q ds m) → R (f.front ++ g.front) → Front R cs (k + m)
joined cs ds k m f e g r = record {
  front = f.front ++ g.front;
  rest = g.rest;
  parts = f.parts ∙ ap (λ ys. f.front ++ ys) (e ∙ g.parts) ∙ sym (append_assoc f.front g.front g.rest);
  len = omega (arith, length-append f.front g.front, f.len, g.len);
  is = r;
}

-- cs doesn't go on with digits
abbrev pub Stops : ℕ → List ℕ → Type 0
Stops base [] = Unit {0}
Stops base (c ∷ cs) = (is_digit_of base c ≡ false) × (eqb c 95 ≡ false)

none_front : (base : ℕ) (cs : List ℕ) → Front (Digits base) cs 0
none_front base cs = record { front = []; rest = cs; parts = refl; len = refl; is = none }

next_front : (base c k : ℕ) (cs : List ℕ) → is_digit_of base c ≡ true → Front (Digits base) cs k → Front (Digits base) (c ∷ cs) (1 + k)
next_front base c k cs t f = record { front = c ∷ f.front; rest = f.rest; parts = ap (λ ds. c ∷ ds) f.parts; len = omega (arith, f.len); is = next t f.is }

parted_front : (base c d k : ℕ) (cs : List ℕ) → c ≡ 95 → is_digit_of base d ≡ true → Front (Digits base) cs k → Front (Digits base) (c ∷ d ∷ cs) (2 + k)
parted_front base c d k cs e t f = record {
  front = c ∷ d ∷ f.front;
  rest = f.rest;
  parts = ap (λ ds. c ∷ d ∷ ds) f.parts;
  len = omega (arith, f.len);
  is = subst (λ (x : ℕ). Digits base (x ∷ d ∷ f.front)) (sym e) (parted t f.is);
}

pub and_left : (a b : Bool) → (a && b) ≡ true → a ≡ true
and_left true b h = refl
and_left false b h = h

pub and_right : (a b : Bool) → (a && b) ≡ true → b ≡ true
and_right true b h = h
and_right false b h = absurd (cc)

pub digits_front : (base : ℕ) (cs : List ℕ) → Front (Digits base) cs (digits_len base cs)
digits_front base [] = none_front base []
digits_front base (c ∷ []) =
    elim (cases_Bool (is_digit_of base c)) [
      | inl t ↦ rw t (next_front base c 0 [] t (none_front base []))
      | inr f ↦ rw f (none_front base (c ∷ []))
    ]
digits_front base (c ∷ d ∷ ds) =
    elim (cases_Bool (is_digit_of base c)) [
      | inl t ↦ rw t (next_front base c (digits_len base (d ∷ ds)) (d ∷ ds) t (digits_front base (d ∷ ds)))
      | inr f ↦ rw f (elim (cases_Bool (eqb c 95 && is_digit_of base d)) [
        | inl t ↦ rw t (parted_front base c d (digits_len base ds) ds (eqb-true c 95 (and_left _ _ t)) (and_right _ _ t) (digits_front base ds))
        | inr g ↦ rw g (none_front base (c ∷ d ∷ ds))
      ])
    ]

len_next : (base c : ℕ) (cs : List ℕ) → is_digit_of base c ≡ true → digits_len base (c ∷ cs) ≡ 1 + digits_len base cs
len_next base c [] t = rw t refl
len_next base c (d ∷ ds) t = rw t refl

len_parted : (base c : ℕ) (cs : List ℕ) → is_digit_of base c ≡ true → digits_len base (95 ∷ c ∷ cs) ≡ 2 + digits_len base cs
len_parted base c cs t =
    elim (cases_Bool (is_digit_of base 95)) [
      | inl u ↦ len_next base 95 (c ∷ cs) u ∙ ap (λ k. 1 + k) (len_next base c cs t) ∙ omega arith
      | inr u ↦ rw (u, t) refl
    ]

pub len_stops : (base : ℕ) (y : List ℕ) → Stops base y → digits_len base y ≡ 0
len_stops base [] s = refl
len_stops base (c ∷ []) s = rw s.0 refl
len_stops base (c ∷ d ∷ ds) s = rw (s.0, s.1) refl

pub digits_max : (base : ℕ) {x : List ℕ} (y : List ℕ) → Digits base x → length x ≤ digits_len base (x ++ y)
digits_max base y none = omega arith
digits_max base y (next {c = c} {cs = cs} t h) = omega (arith, len_next base c (cs ++ y) t, digits_max base y h)
digits_max base y (parted {c = c} {cs = cs} t h) = omega (arith, len_parted base c (cs ++ y) t, digits_max base y h)

pub digits_exact : (base : ℕ) {x : List ℕ} (y : List ℕ) → Stops base y → Digits base x → digits_len base (x ++ y) ≡ length x
digits_exact base y s none = len_stops base y s
digits_exact base y s (next {c = c} {cs = cs} t h) = omega (arith, len_next base c (cs ++ y) t, digits_exact base y s h)
digits_exact base y s (parted {c = c} {cs = cs} t h) = omega (arith, len_parted base c (cs ++ y) t, digits_exact base y s h)

-- digitparts

part_len_digit : (c : ℕ) (cs : List ℕ) → is_digit_of 10 c ≡ true → digit_part_len (c ∷ cs) ≡ 1 + digits_len 10 cs
part_len_digit c cs t = rw t refl

pub part_len_other : (c : ℕ) (cs : List ℕ) → is_digit_of 10 c ≡ false → digit_part_len (c ∷ cs) ≡ 0
part_len_other c cs t = rw t refl

pub part_front : (cs : List ℕ) → 0 < digit_part_len cs → Front IsDigitPart cs (digit_part_len cs)
part_front [] h = absurd (omega arith)
part_front (c ∷ cs) h =
    elim (cases_Bool (is_digit_of 10 c)) [
      | inl t ↦ rw t (let f = digits_front 10 cs in
          record { front = c ∷ f.front; rest = f.rest; parts = ap (λ ds. c ∷ ds) f.parts; len = omega (arith, f.len); is = digits t f.is })
      | inr f ↦ absurd (omega (arith, part_len_other c cs f))
    ]

pub part_max : {x : List ℕ} (y : List ℕ) → IsDigitPart x → length x ≤ digit_part_len (x ++ y)
part_max y (digits {c = c} {cs = cs} t h) = omega (arith, part_len_digit c (cs ++ y) t, digits_max 10 y h)

pub part_exact : {x : List ℕ} (y : List ℕ) → Stops 10 y → IsDigitPart x → digit_part_len (x ++ y) ≡ length x
part_exact y s (digits {c = c} {cs = cs} t h) = omega (arith, part_len_digit c (cs ++ y) t, digits_exact 10 y s h)

pub part_stops : (y : List ℕ) → Stops 10 y → digit_part_len y ≡ 0
part_stops [] s = refl
part_stops (c ∷ cs) s = part_len_other c cs s.0

pub part_some : {x : List ℕ} → IsDigitPart x → 0 < length x
part_some (digits t h) = omega arith
