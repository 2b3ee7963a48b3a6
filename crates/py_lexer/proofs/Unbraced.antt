-- What stands in a field of a formatted string holds no `}`, up to that which ends the field.
use Rattle.std.proofs.Common.{◌≡◌, ℕ, zero, suc, ◌<◌, ◌≤◌, Bool, true, false, not, cond, eqb, ◌&&◌, ◌||◌, List, [], ◌∷◌, ◌++◌, take, drop, Option, Some, None, inl, inr, refl, sym, ap, subst, ◌∙◌, arith}
use Rattle.std.specs.List.{list_all}
use Rattle.std.specs.Char.{digit_value}
use Rattle.std.proofs.lemmas.Bool.{cases_Bool, and_parts, and_from, or_parts, not-true, eqb-true, ltb-true, false≢true}
use Rattle.std.proofs.lemmas.List.Folds.{list_all-append}
use Rattle.unicode_ident.proofs.IdentLemmas.{is_xid_continue-ascii}
use Rattle.rv_names.specs.Identifier.{is_identifier_continue}
use Rattle.py_literals.specs.declared.text.Opening.{Opening}
use Rattle.py_literals.specs.Text.{is_quote, lower, two_letters, opened, opening}
use Rattle.py_literals.specs.Formatted.{is_brace, is_field_char, is_formed}
use Rattle.py_literals.specs.Grammar as grammar
use Rattle.py_literals.specs.Grammar.{is_digit_of, base_of, Digits, IsInteger, IsDigitPart, is_exponent_mark, is_sign, IsExponent, IsPointFloat, IsFloat, is_imaginary_mark, IsImaginary, IsFloating, IsNumber}
use Rattle.py_lexer.specs.declared.token.Kind.{Kind}
use Rattle.py_lexer.specs.Operators.{two_signs, three_signs}
use Rattle.py_lexer.specs.Layout.{operator_of}
use Rattle.py_lexer.proofs.StringFits.{no_opening_two, no_opening_three, open_behind_two}

abbrev pub is_unbraced : ℕ → Bool
is_unbraced c = not (eqb c 125)

-- what passes a test that `}` doesn't pass is no `}`
pub unbraced_by : (p : ℕ → Bool) (c : ℕ) → p 125 ≡ false → p c ≡ true → is_unbraced c ≡ true
unbraced_by p c e h =
    elim (cases_Bool (eqb c 125)) [
      | inl t ↦
          let same : c ≡ 125 = eqb-true c 125 t in
          let g : p 125 ≡ true = subst (λ (v : ℕ). p v ≡ true) same h in
          absurd (false≢true (sym e ∙ g))
      | inr t ↦ rw t refl
    ]

pub all_unbraced : (p : ℕ → Bool) (xs : List ℕ) → p 125 ≡ false → list_all p xs ≡ true → list_all is_unbraced xs ≡ true
all_unbraced p [] e h = refl
all_unbraced p (x ∷ xs) e h =
    let a = and_parts (p x) (list_all p xs) h in
    and_from (is_unbraced x) (list_all is_unbraced xs) (unbraced_by p x e a.0) (all_unbraced p xs e a.1)

pub no_continue : is_identifier_continue 125 ≡ false
no_continue = is_xid_continue-ascii 125 (omega arith)

-- numbers

append_unbraced : (xs ys : List ℕ) → list_all is_unbraced xs ≡ true → list_all is_unbraced ys ≡ true → list_all is_unbraced (xs ++ ys) ≡ true
append_unbraced xs ys h g = list_all-append is_unbraced xs ys ∙ and_from (list_all is_unbraced xs) (list_all is_unbraced ys) h g

cons_unbraced : (x : ℕ) (xs : List ℕ) → is_unbraced x ≡ true → list_all is_unbraced xs ≡ true → list_all is_unbraced (x ∷ xs) ≡ true
cons_unbraced x xs h g = and_from (is_unbraced x) (list_all is_unbraced xs) h g

digit_unbraced : (base c : ℕ) → base ≤ 16 → is_digit_of base c ≡ true → is_unbraced c ≡ true
unfolding is_digit_of
digit_unbraced base c small h =
    let d : digit_value c < base = ltb-true (digit_value c) base h in
    elim (cases_Bool (eqb c 125)) [
      | inl t ↦
          let same : digit_value c ≡ 36 = ap digit_value (eqb-true c 125 t) in
          absurd (omega arith)
      | inr t ↦ rw t refl
    ]

digits_unbraced : (base : ℕ) {cs : List ℕ} → base ≤ 16 → Digits base cs → list_all is_unbraced cs ≡ true
digits_unbraced base small grammar.none = refl
digits_unbraced base small (grammar.next {c = c} {cs = cs} d h) = cons_unbraced c cs (digit_unbraced base c small d) (digits_unbraced base small h)
digits_unbraced base small (grammar.parted {c = c} {cs = cs} d h) = cons_unbraced c cs (digit_unbraced base c small d) (digits_unbraced base small h)

base_by : (a b d : Bool) → cond a 16 (cond b 8 (cond d 2 0)) ≤ 16
base_by true b d = omega arith
base_by false true d = omega arith
base_by false false true = omega arith
base_by false false false = omega arith

base_small : (c : ℕ) → base_of c ≤ 16
unfolding base_of
base_small c = base_by (eqb c 120 || eqb c 88) (eqb c 111 || eqb c 79) (eqb c 98 || eqb c 66)

base_unbraced : (c : ℕ) → 0 < base_of c → is_unbraced c ≡ true
unfolding base_of
base_unbraced c h =
    elim (cases_Bool (eqb c 125)) [
      | inl t ↦
          let same : base_of c ≡ 0 = ap base_of (eqb-true c 125 t) in
          absurd (omega arith)
      | inr t ↦ rw t refl
    ]

integer_unbraced : {cs : List ℕ} → IsInteger cs → list_all is_unbraced cs ≡ true
integer_unbraced (grammar.decimal {c = c} {cs = cs} d e h) = cons_unbraced c cs (digit_unbraced 10 c (omega arith) d) (digits_unbraced 10 (omega arith) h)
integer_unbraced (grammar.zeros h) = digits_unbraced 1 (omega arith) h
integer_unbraced (grammar.based {c = c} {d = d} {ds = ds} e h) = cons_unbraced c (d ∷ ds) (base_unbraced c e) (digits_unbraced (base_of c) (base_small c) h)

part_unbraced : {cs : List ℕ} → IsDigitPart cs → list_all is_unbraced cs ≡ true
part_unbraced (grammar.digits {c = c} {cs = cs} d h) = cons_unbraced c cs (digit_unbraced 10 c (omega arith) d) (digits_unbraced 10 (omega arith) h)

exponent_unbraced : {cs : List ℕ} → IsExponent cs → list_all is_unbraced cs ≡ true
exponent_unbraced (grammar.plain {e = e} {ds = ds} m h) = cons_unbraced e ds (unbraced_by is_exponent_mark e refl m) (part_unbraced h)
exponent_unbraced (grammar.signed {e = e} {s = s} {ds = ds} m g h) =
    cons_unbraced e (s ∷ ds) (unbraced_by is_exponent_mark e refl m) (cons_unbraced s ds (unbraced_by is_sign s refl g) (part_unbraced h))

point_unbraced : {cs : List ℕ} → IsPointFloat cs → list_all is_unbraced cs ≡ true
point_unbraced (grammar.fraction h) = part_unbraced h
point_unbraced (grammar.whole_and_fraction {ds = ds} {es = es} h g) = append_unbraced ds (46 ∷ es) (part_unbraced h) (part_unbraced g)
point_unbraced (grammar.whole {ds = ds} h) = append_unbraced ds (46 ∷ []) (part_unbraced h) refl

float_unbraced : {cs : List ℕ} → IsFloat cs → list_all is_unbraced cs ≡ true
float_unbraced (grammar.point h) = point_unbraced h
float_unbraced (grammar.digits_exponent {ds = ds} {es = es} h g) = append_unbraced ds es (part_unbraced h) (exponent_unbraced g)
float_unbraced (grammar.point_exponent {cs = cs} {es = es} h g) = append_unbraced cs es (point_unbraced h) (exponent_unbraced g)

mark_unbraced : (j : ℕ) → is_imaginary_mark j ≡ true → list_all is_unbraced (j ∷ []) ≡ true
mark_unbraced j m = cons_unbraced j [] (unbraced_by is_imaginary_mark j refl m) refl

imaginary_unbraced : {cs : List ℕ} → IsImaginary cs → list_all is_unbraced cs ≡ true
imaginary_unbraced (grammar.of_float {cs = cs} j h m) = append_unbraced cs (j ∷ []) (float_unbraced h) (mark_unbraced j m)
imaginary_unbraced (grammar.of_digits {ds = ds} j h m) = append_unbraced ds (j ∷ []) (part_unbraced h) (mark_unbraced j m)

pub number_unbraced : {cs : List ℕ} → IsNumber cs → list_all is_unbraced cs ≡ true
number_unbraced (inl h) = integer_unbraced h
number_unbraced (inr (inl h)) = float_unbraced h
number_unbraced (inr (inr h)) = imaginary_unbraced h

-- operators that don't begin with `}`

-- what doesn't begin with `}` and is an operator holds none
other_sign : (a b : ℕ) (t : Bool) → eqb b 125 ≡ t → is_unbraced a ≡ true → (two_signs a 125 ≡ None) → (k : Kind) → two_signs a b ≡ Some k → is_unbraced b ≡ true
other_sign a b true e h n k f =
    let same : b ≡ 125 = eqb-true b 125 e in
    let z : two_signs a 125 ≡ Some k = subst (λ (v : ℕ). two_signs a v ≡ Some k) same f in
    absurd (cc)
other_sign a b false e h n k f = rw e refl

no_second : (a : ℕ) → is_unbraced a ≡ true → two_signs a 125 ≡ None
no_second a h =
    let t : eqb a 125 ≡ false = not-true (eqb a 125) h in
    elim (cases_Bool (eqb a 45)) [ inl u ↦ rw (t, u) refl | inr u ↦ rw (t, u) refl ]

second_sign : (a b : ℕ) (k : Kind) → is_unbraced a ≡ true → two_signs a b ≡ Some k → is_unbraced b ≡ true
second_sign a b k h e = other_sign a b (eqb b 125) refl h (no_second a h) k e

no_third : (a b : ℕ) → three_signs a b 125 ≡ None
no_third a b =
    elim (cases_Bool (eqb a b)) [
      | inl t ↦ elim (cases_Bool (eqb a 46)) [ inl u ↦ rw (t, u) refl | inr u ↦ rw (t, u) refl ]
      | inr t ↦ rw t refl
    ]

third_by : (a b c : ℕ) (t : Bool) → eqb c 125 ≡ t → (k : Kind) → three_signs a b c ≡ Some k → is_unbraced c ≡ true
third_by a b c true e k f =
    let same : c ≡ 125 = eqb-true c 125 e in
    let z : three_signs a b 125 ≡ Some k = subst (λ (v : ℕ). three_signs a b v ≡ Some k) same f in
    let n = no_third a b in
    absurd (cc)
third_by a b c false e k f = rw e refl

middle_sign : (a b c : ℕ) (k : Kind) → is_unbraced a ≡ true → three_signs a b c ≡ Some k → is_unbraced b ≡ true
middle_sign a b c k h e =
    elim (cases_Bool (eqb a b)) [
      | inl t ↦ subst (λ (v : ℕ). is_unbraced v ≡ true) (eqb-true a b t) h
      | inr t ↦ let z : three_signs a b c ≡ None = rw t refl in absurd (cc)
    ]

pub operator_unbraced : (a : ℕ) (text : List ℕ) (k : Kind) → is_unbraced a ≡ true → operator_of (a ∷ text) ≡ Some k → list_all is_unbraced (a ∷ text) ≡ true
operator_unbraced a [] k h e = cons_unbraced a [] h refl
operator_unbraced a (b ∷ []) k h e = cons_unbraced a (b ∷ []) h (cons_unbraced b [] (second_sign a b k h e) refl)
operator_unbraced a (b ∷ c ∷ []) k h e =
    cons_unbraced a (b ∷ c ∷ []) h (cons_unbraced b (c ∷ []) (middle_sign a b c k h e) (cons_unbraced c [] (third_by a b c (eqb c 125) refl k e) refl))
operator_unbraced a (b ∷ c ∷ d ∷ ds) k h e = absurd (cc)

-- strings don't begin in a field

none_if : (b : Bool) → cond {A = Option Opening} b None None ≡ None
none_if true = refl
none_if false = refl

-- c isn't one of the characters that end a field or can't stand in it
pub field_other : (c d : ℕ) → is_field_char d ≡ false → is_field_char c ≡ true → c ≡ d → ⊥
field_other c d e h same = false≢true (sym e ∙ subst (λ (v : ℕ). is_field_char v ≡ true) same h)

pub field_quote : (c : ℕ) → is_field_char c ≡ true → is_quote c ≡ false
field_quote c h =
    let a = or_parts (is_quote c) (is_brace c || ((eqb c 92) || ((eqb c 33) || ((eqb c 58) || ((eqb c 35) || (eqb c 10)))))) (not-true (is_quote c || (is_brace c || ((eqb c 92) || ((eqb c 33) || ((eqb c 58) || ((eqb c 35) || (eqb c 10))))))) h) in
    a.0

pub field_unbraced : (c : ℕ) → is_field_char c ≡ true → is_unbraced c ≡ true
field_unbraced c h = unbraced_by is_field_char c refl h

-- the next character of a field is its `}`, or stands in it
pub formed_next : (c : ℕ) (xs : List ℕ) → eqb c 125 ≡ false → is_formed true (c ∷ xs) ≡ true → (is_field_char c ≡ true) × (is_formed true xs ≡ true)
formed_next c xs t h =
    let e : is_formed true (c ∷ xs) ≡ (is_field_char c && is_formed true xs) = rw t refl in
    and_parts (is_field_char c) (is_formed true xs) (sym e ∙ h)

pub formed_end : (c : ℕ) (xs : List ℕ) → eqb c 125 ≡ true → is_formed true (c ∷ xs) ≡ true → is_formed false xs ≡ true
formed_end c xs t h =
    let e : is_formed true (c ∷ xs) ≡ is_formed false xs = rw t refl in
    sym e ∙ h

formed_no_quote : (c : ℕ) (xs : List ℕ) → is_formed true (c ∷ xs) ≡ true → is_quote c ≡ false
formed_no_quote c xs h =
    elim (cases_Bool (eqb c 125)) [
      | inl t ↦ ap is_quote (eqb-true c 125 t)
      | inr t ↦ let a = formed_next c xs t h in field_quote c a.0
    ]

no_braced_prefix : (a b c : ℕ) (xs : List ℕ) → b ≡ 125 → opened (two_letters (lower a) (lower b)) 2 c xs ≡ None
no_braced_prefix a b c xs e =
    elim (cases_Bool (eqb (lower a) 114)) [ inl t ↦ rw (e, t) refl | inr t ↦ rw (e, t) refl ]

behind_brace : (a b : ℕ) (zs : List ℕ) → is_quote a ≡ false → is_quote b ≡ false → b ≡ 125 → opening (a ∷ b ∷ zs) ≡ None
behind_brace a b [] t u e = no_opening_two a b t u
behind_brace a b (z ∷ zs) t u e =
    elim (cases_Bool (is_quote z)) [
      | inl w ↦ open_behind_two a b z zs t u w ∙ no_braced_prefix a b z zs e
      | inr w ↦ no_opening_three a b z zs t u w
    ]

behind_two : (a b : ℕ) (ys end : List ℕ) → is_quote a ≡ false → is_quote b ≡ false → is_formed true ys ≡ true → opening (a ∷ b ∷ (ys ++ end)) ≡ None
behind_two a b [] end t u h = absurd (false≢true h)
behind_two a b (z ∷ zs) end t u h = no_opening_three a b z (zs ++ end) t u (formed_no_quote z zs h)

pub field_no_string : (a : ℕ) (xs end : List ℕ) → is_field_char a ≡ true → is_formed true xs ≡ true → opening (a ∷ (xs ++ end)) ≡ None
field_no_string a [] end c h = absurd (false≢true h)
field_no_string a (b ∷ ys) end c h =
    let t = field_quote a c in
    let u = formed_no_quote b ys h in
    elim (cases_Bool (eqb b 125)) [
      | inl w ↦ behind_brace a b (ys ++ end) t u (eqb-true b 125 w)
      | inr w ↦ let g = formed_next b ys w h in behind_two a b ys end t u g.1
    ]

-- what is left of a field behind characters none of which is its `}`
pub record Left (inside : Bool) (end cs : List ℕ) : Type 0 where
  pub body : List ℕ
  pub parts : cs ≡ body ++ end
  pub formed : is_formed inside body ≡ true

pub field_left : (body end : List ℕ) (n : ℕ) → is_formed true body ≡ true → list_all is_unbraced (take n (body ++ end)) ≡ true → Left true end (drop n (body ++ end))
field_left body end zero h u = record { body = body; parts = refl; formed = h }
field_left [] end (suc n) h u = absurd (false≢true h)
field_left (x ∷ xs) end (suc n) h u =
    let a = and_parts (is_unbraced x) (list_all is_unbraced (take n (xs ++ end))) u in
    let g = formed_next x xs (not-true (eqb x 125) a.0) h in
    field_left xs end n g.1 a.1
