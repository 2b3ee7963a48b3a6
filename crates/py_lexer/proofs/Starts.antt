-- The characters that a word, a number, a string and an operator begin with.
use Rattle.std.proofs.Common.{◌≡◌, ℕ, zero, suc, ◌+◌, ◌<◌, ◌≤◌, Bool, true, false, not, cond, eqb, nat_lt, nat_le, ◌&&◌, List, [], ◌∷◌, ◌++◌, take, Option, Some, None, ◌⊎◌, inl, inr, refl, sym, ap, ◌∙◌, arith}
use Rattle.std.specs.List.{list_all}
use Rattle.std.specs.Char.{digit_value, is_ascii_alphabetic}
use Rattle.std.proofs.lemmas.Bool.{cases_Bool, and_parts, and_from, or_from, or_left, or_right, or_cases, not-true, eqb-true, ne_eqb, ltb-true, leb-true, le-leb, lt-leb, false≢true}
use Rattle.std.proofs.lemmas.Str.Parse.{digit_from_value}
use Rattle.unicode_ident.proofs.IdentLemmas.{is_xid_start-ascii, is_xid_continue-ascii}
use Rattle.rv_names.specs.Identifier.{is_spelled_as_identifier, is_identifier_start, is_identifier_continue}
use Rattle.py_literals.specs.declared.text.Prefix.{Prefix}
use Rattle.py_literals.specs.declared.text.Opening.{Opening}
use Rattle.py_literals.specs.Text.{is_quote, lower, prefix, one_letter, beside_raw, two_letters, opened, opening}
use Rattle.py_literals.specs.Grammar as grammar
use Rattle.py_literals.specs.Grammar.{is_digit_of, IsInteger, IsDigitPart, IsPointFloat, IsFloat, IsImaginary, IsNumber}
use Rattle.py_lexer.specs.declared.token.Kind.{Kind}
use Rattle.py_lexer.specs.declared.token.Kind.TheVariants as kinds
use Rattle.py_lexer.specs.Chars.{is_digit}
use Rattle.py_lexer.specs.Words.{next_is}
use Rattle.py_lexer.specs.Operators.{sign, before_equal, doubled, doubled_before_equal, two_signs, three_signs}
use Rattle.py_lexer.specs.Layout.{operator_of}
use Rattle.py_lexer.proofs.StringFits.{open_at_once, open_behind_one, open_behind_two, no_opening_one, no_opening_two, no_opening_three}

-- what holds of d holds of c, which is d
at_same : (p : ℕ → Bool) (c d : ℕ) (b : Bool) → eqb c d ≡ true → p d ≡ b → p c ≡ b
at_same p c d b e h = ap p (eqb-true c d e) ∙ h

-- words

pub small_no_letter : (c : ℕ) → c < 65 → is_ascii_alphabetic c ≡ false
small_no_letter c h =
    let a : nat_le 65 c ≡ false = lt-leb 65 c h in
    let b : nat_le 97 c ≡ false = lt-leb 97 c (omega arith) in
    rw (a, b) refl

letter_small : (c : ℕ) → is_ascii_alphabetic c ≡ true → c < 128
letter_small c t =
    elim (or_cases (nat_le 65 c && nat_le c 90) (nat_le 97 c && nat_le c 122) t) [
      | inl u ↦ let p = and_parts (nat_le 65 c) (nat_le c 90) u in let l = leb-true c 90 p.1 in omega arith
      | inr u ↦ let p = and_parts (nat_le 97 c) (nat_le c 122) u in let l = leb-true c 122 p.1 in omega arith
    ]

start_ascii : (c : ℕ) → c < 128 → is_ascii_alphabetic c ≡ false → eqb c 95 ≡ false → is_identifier_start c ≡ false
start_ascii c h t u = or_from _ (eqb c 95) (is_xid_start-ascii c h ∙ t) u

pub letter_starts : (c : ℕ) → is_ascii_alphabetic c ≡ true → is_identifier_start c ≡ true
letter_starts c t = or_left _ (eqb c 95) (is_xid_start-ascii c (letter_small c t) ∙ t)

small_no_start : (c : ℕ) → c < 65 → is_identifier_start c ≡ false
small_no_start c h = start_ascii c (omega arith) (small_no_letter c h) (ne_eqb c 95 (λ e. omega arith))

pub digit_small : (c : ℕ) → is_digit c ≡ true → (48 ≤ c) × (c ≤ 57)
digit_small c t = let p = and_parts (nat_le 48 c) (nat_le c 57) t in (leb-true 48 c p.0, leb-true c 57 p.1)

quote_is : (c : ℕ) → is_quote c ≡ true → (c ≡ 34) ⊎ (c ≡ 39)
quote_is c t =
    elim (or_cases (eqb c 34) (eqb c 39) t) [ inl u ↦ inl (eqb-true c 34 u) | inr u ↦ inr (eqb-true c 39 u) ]

quote_small : (c : ℕ) → is_quote c ≡ true → c < 48
quote_small c t = elim (quote_is c t) [ inl e ↦ omega arith | inr e ↦ omega arith ]

pub digit_no_start : (c : ℕ) → is_digit c ≡ true → is_identifier_start c ≡ false
digit_no_start c t = let p = digit_small c t in small_no_start c (omega (arith, p.1))

pub quote_no_start : (c : ℕ) → is_quote c ≡ true → is_identifier_start c ≡ false
quote_no_start c t = let l = quote_small c t in small_no_start c (omega arith)

pub dot_no_start : is_identifier_start 46 ≡ false
dot_no_start = small_no_start 46 (omega arith)

no_continue_34 : is_identifier_continue 34 ≡ false
no_continue_34 = is_xid_continue-ascii 34 (omega arith)

no_continue_39 : is_identifier_continue 39 ≡ false
no_continue_39 = is_xid_continue-ascii 39 (omega arith)

pub quote_no_continue : (c : ℕ) → is_quote c ≡ true → is_identifier_continue c ≡ false
quote_no_continue c t =
    elim (quote_is c t) [ inl e ↦ ap is_identifier_continue e ∙ no_continue_34 | inr e ↦ ap is_identifier_continue e ∙ no_continue_39 ]

pub quote_no_digit : (c : ℕ) → is_quote c ≡ true → is_digit c ≡ true → ⊥
quote_no_digit c t u = let l = quote_small c t in let p = digit_small c u in omega (arith, p.0)

-- a word begins with a character that may begin an identifier
pub word_begins : (c : ℕ) (text : List ℕ) → is_spelled_as_identifier (c ∷ text) ≡ true → is_identifier_start c ≡ true
word_begins c text h = let p = and_parts (is_identifier_start c) (list_all is_identifier_continue text) h in p.0

-- numbers

-- a number begins with a digit, or with a point and a digit
abbrev pub NumberBegins : List ℕ → Type 0
NumberBegins [] = ⊥
NumberBegins (c ∷ cs) = (is_digit c ≡ true) ⊎ ((c ≡ 46) × (next_is is_digit cs ≡ true))

is_digit_from : (c : ℕ) → is_digit_of 10 c ≡ true → is_digit c ≡ true
unfolding is_digit_of
is_digit_from c t =
    let r = digit_from_value c (ltb-true (digit_value c) 10 t) in
    and_from (nat_le 48 c) (nat_le c 57) (le-leb 48 c r.0) (le-leb c 57 r.1)

next_append : (cs ds : List ℕ) → next_is is_digit cs ≡ true → next_is is_digit (cs ++ ds) ≡ true
next_append [] ds h = absurd (false≢true h)
next_append (c ∷ cs) ds h = h

begins_append : (xs ys : List ℕ) → NumberBegins xs → NumberBegins (xs ++ ys)
begins_append [] ys h = absurd h
begins_append (c ∷ cs) ys (inl t) = inl t
begins_append (c ∷ cs) ys (inr p) = inr (p.0, next_append cs ys p.1)

integer_begins : {cs : List ℕ} → IsInteger cs → NumberBegins cs
integer_begins (grammar.decimal {c = c} d e h) = inl (is_digit_from c d)
integer_begins (grammar.zeros h) = inl refl
integer_begins (grammar.based e h) = inl refl

part_begins : {cs : List ℕ} → IsDigitPart cs → NumberBegins cs
part_begins (grammar.digits {c = c} d h) = inl (is_digit_from c d)

part_next : {cs : List ℕ} → IsDigitPart cs → next_is is_digit cs ≡ true
part_next (grammar.digits {c = c} d h) = is_digit_from c d

point_begins : {cs : List ℕ} → IsPointFloat cs → NumberBegins cs
point_begins (grammar.fraction h) = inr (refl, part_next h)
point_begins (grammar.whole_and_fraction {ds = ds} {es = es} h g) = begins_append ds (46 ∷ es) (part_begins h)
point_begins (grammar.whole {ds = ds} h) = begins_append ds (46 ∷ []) (part_begins h)

float_begins : {cs : List ℕ} → IsFloat cs → NumberBegins cs
float_begins (grammar.point h) = point_begins h
float_begins (grammar.digits_exponent {ds = ds} {es = es} h g) = begins_append ds es (part_begins h)
float_begins (grammar.point_exponent {cs = cs} {es = es} h g) = begins_append cs es (point_begins h)

imaginary_begins : {cs : List ℕ} → IsImaginary cs → NumberBegins cs
imaginary_begins (grammar.of_float {cs = cs} j h m) = begins_append cs (j ∷ []) (float_begins h)
imaginary_begins (grammar.of_digits {ds = ds} j h m) = begins_append ds (j ∷ []) (part_begins h)

pub number_begins : {cs : List ℕ} → IsNumber cs → NumberBegins cs
number_begins (inl h) = integer_begins h
number_begins (inr (inl h)) = float_begins h
number_begins (inr (inr h)) = imaginary_begins h

-- strings

lower_letter_by : (a n : ℕ) (b : Bool) → (nat_le 65 a && nat_le a 90) ≡ b → cond b (a + 32) a ≡ n → (nat_le 97 n && nat_le n 122) ≡ true → is_ascii_alphabetic a ≡ true
lower_letter_by a n true e f h = or_left (nat_le 65 a && nat_le a 90) (nat_le 97 a && nat_le a 122) e
lower_letter_by a n false e f h = or_right (nat_le 65 a && nat_le a 90) (nat_le 97 a && nat_le a 122) (ap (λ (v : ℕ). nat_le 97 v && nat_le v 122) f ∙ h)

-- a letter in either case
lower_letter : (a n : ℕ) → (nat_le 97 n && nat_le n 122) ≡ true → eqb (lower a) n ≡ true → is_ascii_alphabetic a ≡ true
lower_letter a n h e = lower_letter_by a n (nat_le 65 a && nat_le a 90) refl (eqb-true (lower a) n e) h

abbrev NoPrefixOr : Option Prefix → ℕ → Type 0
NoPrefixOr p a = (p ≡ None) ⊎ (is_ascii_alphabetic a ≡ true)

prefix_if : (a n : ℕ) (p r : Option Prefix) → (nat_le 97 n && nat_le n 122) ≡ true → NoPrefixOr r a → NoPrefixOr (cond (eqb (lower a) n) p r) a
prefix_if a n p r h g =
    elim (cases_Bool (eqb (lower a) n)) [
      | inl t ↦ inr (lower_letter a n h t)
      | inr t ↦ rw t g
    ]

one_letter_begins : (a : ℕ) → NoPrefixOr (one_letter (lower a)) a
one_letter_begins a = prefix_if a 114 _ _ refl (prefix_if a 117 _ _ refl (prefix_if a 102 _ _ refl (prefix_if a 98 _ None refl (inl refl))))

beside_begins : (a : ℕ) → NoPrefixOr (beside_raw (lower a)) a
beside_begins a = prefix_if a 98 _ _ refl (prefix_if a 102 _ None refl (inl refl))

no_prefix_if : (a : ℕ) (b : Bool) (p : Option Prefix) → NoPrefixOr p a → NoPrefixOr (cond b p None) a
no_prefix_if a true p h = h
no_prefix_if a false p h = inl refl

two_letters_begin : (a d : ℕ) → NoPrefixOr (two_letters (lower a) d) a
two_letters_begin a d = prefix_if a 114 _ _ refl (no_prefix_if a (eqb d 114) (beside_raw (lower a)) (beside_begins a))

opened_letter : (a : ℕ) (p : Option Prefix) (n q : ℕ) (xs : List ℕ) (o : Opening) → NoPrefixOr p a → opened p n q xs ≡ Some o → is_ascii_alphabetic a ≡ true
opened_letter a p n q xs o (inl z) e =
    let y : opened p n q xs ≡ None = ap (λ (v : Option Prefix). opened v n q xs) z in
    absurd (cc)
opened_letter a p n q xs o (inr t) e = t

string_begins_three : (a b c : ℕ) (zs : List ℕ) (o : Opening) (q : Bool) → opening (a ∷ b ∷ c ∷ zs) ≡ Some o → is_quote a ≡ false → is_quote b ≡ false → is_quote c ≡ q → is_ascii_alphabetic a ≡ true
string_begins_three a b c zs o true e t u w = opened_letter a (two_letters (lower a) (lower b)) 2 c zs o (two_letters_begin a (lower b)) (sym (open_behind_two a b c zs t u w) ∙ e)
string_begins_three a b c zs o false e t u w = let z = no_opening_three a b c zs t u w in absurd (cc)

string_begins_two : (a b : ℕ) (ys : List ℕ) (o : Opening) (q : Bool) → opening (a ∷ b ∷ ys) ≡ Some o → is_quote a ≡ false → is_quote b ≡ q → is_ascii_alphabetic a ≡ true
string_begins_two a b ys o true e t u = opened_letter a (one_letter (lower a)) 1 b ys o (one_letter_begins a) (sym (open_behind_one a b ys t u) ∙ e)
string_begins_two a b [] o false e t u = let z = no_opening_two a b t u in absurd (cc)
string_begins_two a b (c ∷ zs) o false e t u = string_begins_three a b c zs o (is_quote c) e t u refl

string_begins_by : (a : ℕ) (xs : List ℕ) (o : Opening) → opening (a ∷ xs) ≡ Some o → is_quote a ≡ false → is_ascii_alphabetic a ≡ true
string_begins_by a [] o e t = let z = no_opening_one a t in absurd (cc)
string_begins_by a (b ∷ ys) o e t = string_begins_two a b ys o (is_quote b) e t refl

-- a string begins with a quote or a letter
pub string_begins : (a : ℕ) (xs : List ℕ) (o : Opening) → opening (a ∷ xs) ≡ Some o → (is_quote a ≡ true) ⊎ (is_ascii_alphabetic a ≡ true)
string_begins a xs o e = elim (cases_Bool (is_quote a)) [ inl t ↦ inl t | inr t ↦ inr (string_begins_by a xs o e t) ]

opened_none : (p : Option Prefix) (n q : ℕ) (xs ys : List ℕ) → opened p n q xs ≡ None → opened p n q ys ≡ None
opened_none None n q xs ys e = refl
opened_none (Some p) n q xs ys e = absurd (cc)

-- where no string begins, none does in a front either
front_opens_third : (a b c : ℕ) (zs : List ℕ) (l : ℕ) (q : Bool) → is_quote a ≡ false → is_quote b ≡ false → is_quote c ≡ q → opening (a ∷ b ∷ c ∷ zs) ≡ None → opening (a ∷ b ∷ c ∷ take l zs) ≡ None
front_opens_third a b c zs l true t u w e =
    let z : opened (two_letters (lower a) (lower b)) 2 c zs ≡ None = sym (open_behind_two a b c zs t u w) ∙ e in
    open_behind_two a b c (take l zs) t u w ∙ opened_none (two_letters (lower a) (lower b)) 2 c zs (take l zs) z
front_opens_third a b c zs l false t u w e = no_opening_three a b c (take l zs) t u w

front_opens_second : (a b : ℕ) (ys : List ℕ) (j : ℕ) (q : Bool) → is_quote a ≡ false → is_quote b ≡ q → opening (a ∷ b ∷ ys) ≡ None → opening (a ∷ b ∷ take j ys) ≡ None
front_opens_second a b ys j true t u e =
    let z : opened (one_letter (lower a)) 1 b ys ≡ None = sym (open_behind_one a b ys t u) ∙ e in
    open_behind_one a b (take j ys) t u ∙ opened_none (one_letter (lower a)) 1 b ys (take j ys) z
front_opens_second a b [] zero false t u e = no_opening_two a b t u
front_opens_second a b [] (suc j) false t u e = no_opening_two a b t u
front_opens_second a b (c ∷ zs) zero false t u e = no_opening_two a b t u
front_opens_second a b (c ∷ zs) (suc j) false t u e = front_opens_third a b c zs j (is_quote c) t u refl e

front_opens_first : (a : ℕ) (xs : List ℕ) (i : ℕ) (q : Bool) → is_quote a ≡ q → opening (a ∷ xs) ≡ None → opening (a ∷ take i xs) ≡ None
front_opens_first a xs i true t e =
    let z : opened (prefix false false false) 0 a xs ≡ None = sym (open_at_once a xs t) ∙ e in
    open_at_once a (take i xs) t ∙ opened_none (prefix false false false) 0 a xs (take i xs) z
front_opens_first a [] zero false t e = no_opening_one a t
front_opens_first a [] (suc i) false t e = no_opening_one a t
front_opens_first a (b ∷ ys) zero false t e = no_opening_one a t
front_opens_first a (b ∷ ys) (suc i) false t e = front_opens_second a b ys i (is_quote b) t refl e

pub no_opening_front : (cs : List ℕ) (m : ℕ) → opening cs ≡ None → opening (take m cs) ≡ None
no_opening_front [] zero e = refl
no_opening_front [] (suc m) e = refl
no_opening_front (a ∷ xs) zero e = refl
no_opening_front (a ∷ xs) (suc m) e = front_opens_first a xs m (is_quote a) refl e

-- a front that holds the opening quotes is no word
second_no_word : (a b : ℕ) (text : List ℕ) → is_quote b ≡ true → is_spelled_as_identifier (a ∷ b ∷ text) ≡ true → ⊥
second_no_word a b text t h =
    let p = and_parts (is_identifier_start a) (list_all is_identifier_continue (b ∷ text)) h in
    let r = and_parts (is_identifier_continue b) (list_all is_identifier_continue text) p.1 in
    false≢true (sym (quote_no_continue b t) ∙ r.0)

third_no_word : (a b c : ℕ) (text : List ℕ) → is_quote c ≡ true → is_spelled_as_identifier (a ∷ b ∷ c ∷ text) ≡ true → ⊥
third_no_word a b c text t h =
    let p = and_parts (is_identifier_start a) (list_all is_identifier_continue (b ∷ c ∷ text)) h in
    let r = and_parts (is_identifier_continue b) (list_all is_identifier_continue (c ∷ text)) p.1 in
    let s = and_parts (is_identifier_continue c) (list_all is_identifier_continue text) r.1 in
    false≢true (sym (quote_no_continue c t) ∙ s.0)

quoted_third : (a b c : ℕ) (zs : List ℕ) (m : ℕ) (q : Bool) → is_quote a ≡ false → is_quote b ≡ false → is_quote c ≡ q → (opening (a ∷ b ∷ c ∷ zs) ≡ None → ⊥) → 2 < m → is_spelled_as_identifier (take m (a ∷ b ∷ c ∷ zs)) ≡ true → ⊥
quoted_third a b c zs zero q t u w e l h = omega arith
quoted_third a b c zs (suc zero) q t u w e l h = omega arith
quoted_third a b c zs (suc (suc zero)) q t u w e l h = omega arith
quoted_third a b c zs (suc (suc (suc i))) true t u w e l h = third_no_word a b c (take i zs) w h
quoted_third a b c zs (suc (suc (suc i))) false t u w e l h = e (no_opening_three a b c zs t u w)

quoted_second : (a b : ℕ) (ys : List ℕ) (m : ℕ) (q : Bool) → is_quote a ≡ false → is_quote b ≡ q → (opening (a ∷ b ∷ ys) ≡ None → ⊥) → 2 < m → is_spelled_as_identifier (take m (a ∷ b ∷ ys)) ≡ true → ⊥
quoted_second a b ys zero true t u e l h = omega arith
quoted_second a b ys (suc zero) true t u e l h = omega arith
quoted_second a b ys (suc (suc i)) true t u e l h = second_no_word a b (take i ys) u h
quoted_second a b [] m false t u e l h = e (no_opening_two a b t u)
quoted_second a b (c ∷ zs) m false t u e l h = quoted_third a b c zs m (is_quote c) t u refl e l h

pub quoted_no_word : (a : ℕ) (xs : List ℕ) (m : ℕ) → is_quote a ≡ false → (opening (a ∷ xs) ≡ None → ⊥) → 2 < m → is_spelled_as_identifier (take m (a ∷ xs)) ≡ true → ⊥
quoted_no_word a [] m t e l h = e (no_opening_one a t)
quoted_no_word a (b ∷ ys) m t e l h = quoted_second a b ys m (is_quote b) t refl e l h

-- operators

-- c is in ASCII, and no letter, digit, underscore or quote
abbrev pub is_sign_start : ℕ → Bool
is_sign_start c = nat_lt c 128 && (not (is_ascii_alphabetic c) && (not (eqb c 95) && (not (is_digit c) && not (is_quote c))))

pub sign_no_start : (c : ℕ) → is_sign_start c ≡ true → is_identifier_start c ≡ false
sign_no_start c h =
    let p = and_parts (nat_lt c 128) (not (is_ascii_alphabetic c) && (not (eqb c 95) && (not (is_digit c) && not (is_quote c)))) h in
    let q = and_parts (not (is_ascii_alphabetic c)) (not (eqb c 95) && (not (is_digit c) && not (is_quote c))) p.1 in
    let r = and_parts (not (eqb c 95)) (not (is_digit c) && not (is_quote c)) q.1 in
    start_ascii c (ltb-true c 128 p.0) (not-true (is_ascii_alphabetic c) q.0) (not-true (eqb c 95) r.0)

pub sign_others : (c : ℕ) → is_sign_start c ≡ true → (is_digit c ≡ false) × (is_quote c ≡ false)
sign_others c h =
    let p = and_parts (nat_lt c 128) (not (is_ascii_alphabetic c) && (not (eqb c 95) && (not (is_digit c) && not (is_quote c)))) h in
    let q = and_parts (not (is_ascii_alphabetic c)) (not (eqb c 95) && (not (is_digit c) && not (is_quote c))) p.1 in
    let r = and_parts (not (eqb c 95)) (not (is_digit c) && not (is_quote c)) q.1 in
    let s = and_parts (not (is_digit c)) (not (is_quote c)) r.1 in
    (not-true (is_digit c) s.0, not-true (is_quote c) s.1)

abbrev NoneOr : Option Kind → ℕ → Type 0
NoneOr k a = (k ≡ None) ⊎ (is_sign_start a ≡ true)

none_or_if : (a n : ℕ) (k : Kind) (o : Option Kind) → is_sign_start n ≡ true → NoneOr o a → NoneOr (cond (eqb a n) (Some k) o) a
none_or_if a n k o h g =
    elim (cases_Bool (eqb a n)) [
      | inl t ↦ inr (at_same is_sign_start a n true t h)
      | inr t ↦ rw t g
    ]

either_begins : (a : ℕ) (b : Bool) (k l : Option Kind) → NoneOr k a → NoneOr l a → NoneOr (cond b k l) a
either_begins a true k l h g = h
either_begins a false k l h g = g

both_begin : (a n : ℕ) (b : Bool) (k : Kind) → is_sign_start n ≡ true → NoneOr (cond (eqb a n && b) (Some k) None) a
both_begin a n b k h =
    elim (cases_Bool (eqb a n)) [
      | inl t ↦ inr (at_same is_sign_start a n true t h)
      | inr t ↦ inl (rw t refl)
    ]

sign_begins : (a : ℕ) → NoneOr (sign a) a
sign_begins a =
    none_or_if a 40 kinds.LeftParen _ refl (
    none_or_if a 41 kinds.RightParen _ refl (
    none_or_if a 91 kinds.LeftBracket _ refl (
    none_or_if a 93 kinds.RightBracket _ refl (
    none_or_if a 123 kinds.LeftBrace _ refl (
    none_or_if a 125 kinds.RightBrace _ refl (
    none_or_if a 44 kinds.Comma _ refl (
    none_or_if a 58 kinds.Colon _ refl (
    none_or_if a 46 kinds.Dot _ refl (
    none_or_if a 59 kinds.Semicolon _ refl (
    none_or_if a 61 kinds.Equal _ refl (
    none_or_if a 43 kinds.Plus _ refl (
    none_or_if a 45 kinds.Minus _ refl (
    none_or_if a 42 kinds.Star _ refl (
    none_or_if a 47 kinds.Slash _ refl (
    none_or_if a 37 kinds.Percent _ refl (
    none_or_if a 64 kinds.At _ refl (
    none_or_if a 38 kinds.Ampersand _ refl (
    none_or_if a 124 kinds.Bar _ refl (
    none_or_if a 94 kinds.Caret _ refl (
    none_or_if a 126 kinds.Tilde _ refl (
    none_or_if a 60 kinds.Less _ refl (
    none_or_if a 62 kinds.Greater None refl (inl refl)))))))))))))))))))))))

before_equal_begins : (a : ℕ) → NoneOr (before_equal a) a
before_equal_begins a =
    none_or_if a 61 kinds.DoubleEqual _ refl (
    none_or_if a 33 kinds.NotEqual _ refl (
    none_or_if a 60 kinds.LessEqual _ refl (
    none_or_if a 62 kinds.GreaterEqual _ refl (
    none_or_if a 58 kinds.ColonEqual _ refl (
    none_or_if a 43 kinds.PlusEqual _ refl (
    none_or_if a 45 kinds.MinusEqual _ refl (
    none_or_if a 42 kinds.StarEqual _ refl (
    none_or_if a 47 kinds.SlashEqual _ refl (
    none_or_if a 37 kinds.PercentEqual _ refl (
    none_or_if a 64 kinds.AtEqual _ refl (
    none_or_if a 38 kinds.AmpersandEqual _ refl (
    none_or_if a 124 kinds.BarEqual _ refl (
    none_or_if a 94 kinds.CaretEqual None refl (inl refl))))))))))))))

doubled_begins : (a : ℕ) → NoneOr (doubled a) a
doubled_begins a =
    none_or_if a 42 kinds.DoubleStar _ refl (
    none_or_if a 47 kinds.DoubleSlash _ refl (
    none_or_if a 60 kinds.LeftShift _ refl (
    none_or_if a 62 kinds.RightShift None refl (inl refl))))

doubled_before_equal_begins : (a : ℕ) → NoneOr (doubled_before_equal a) a
doubled_before_equal_begins a =
    none_or_if a 42 kinds.DoubleStarEqual _ refl (
    none_or_if a 47 kinds.DoubleSlashEqual _ refl (
    none_or_if a 60 kinds.LeftShiftEqual _ refl (
    none_or_if a 62 kinds.RightShiftEqual None refl (inl refl))))

two_begin : (a b : ℕ) → NoneOr (two_signs a b) a
two_begin a b =
    either_begins a (eqb b 61) (before_equal a) _ (before_equal_begins a)
    (either_begins a (eqb a b) (doubled a) _ (doubled_begins a) (both_begin a 45 (eqb b 62) kinds.Arrow refl))

three_begin : (a b c : ℕ) → NoneOr (three_signs a b c) a
three_begin a b c =
    either_begins a (eqb a b) _ None
    (either_begins a (eqb c 61) (doubled_before_equal a) _ (doubled_before_equal_begins a) (both_begin a 46 (eqb c 46) kinds.Ellipsis refl)) (inl refl)

must_begin : (a : ℕ) (k : Option Kind) → NoneOr k a → (k ≡ None → ⊥) → is_sign_start a ≡ true
must_begin a k (inl z) e = absurd (e z)
must_begin a k (inr t) e = t

pub operator_begins : (a : ℕ) (text : List ℕ) → (operator_of (a ∷ text) ≡ None → ⊥) → is_sign_start a ≡ true
operator_begins a [] e = must_begin a (sign a) (sign_begins a) e
operator_begins a (b ∷ []) e = must_begin a (two_signs a b) (two_begin a b) e
operator_begins a (b ∷ c ∷ []) e = must_begin a (three_signs a b c) (three_begin a b c) e
operator_begins a (b ∷ c ∷ d ∷ ds) e = absurd (e refl)

-- behind a point that a digit follows no operator goes on
digit_not : (d n : ℕ) → is_digit d ≡ true → is_digit n ≡ false → eqb d n ≡ false
digit_not d n t e = ne_eqb d n (λ same. false≢true (sym e ∙ ap is_digit (sym same) ∙ t))

not_digit : (n d : ℕ) → is_digit d ≡ true → is_digit n ≡ false → eqb n d ≡ false
not_digit n d t e = ne_eqb n d (λ same. false≢true (sym e ∙ ap is_digit same ∙ t))

pub point_no_operator : (d : ℕ) (text : List ℕ) → is_digit d ≡ true → operator_of (46 ∷ d ∷ text) ≡ None
point_no_operator d [] t =
    let a : eqb d 61 ≡ false = digit_not d 61 t refl in
    let b : eqb 46 d ≡ false = not_digit 46 d t refl in
    rw (a, b) refl
point_no_operator d (e ∷ []) t = let b : eqb 46 d ≡ false = not_digit 46 d t refl in rw b refl
point_no_operator d (e ∷ f ∷ text) t = refl
