-- Strings whose end is near: no escape and no line end stands in them.
use Rattle.std.proofs.Common.{◌≡◌, ℕ, suc, ◌+◌, ◌<◌, ◌≤◌, Bool, true, false, ◌||◌, ◌==◌, cond, List, [], ◌∷◌, length, take, drop, get_or, length-take, Some, Ok, encode_utf8_all, refl, sym, ap, subst, ◌∙◌, arith}
use Rattle.std.specs.List.{prefix_len, list_any}
use Rattle.std.proofs.lemmas.Bool.Decides.{nat_tests}
use Rattle.std.proofs.lemmas.Bool.{or_parts, or_from, not-true, eq-eqb}
use Rattle.py_literals.specs.declared.text.StringKind.{StringKind}
use Rattle.py_literals.specs.Text.{is_quote, body_len}
use Rattle.py_literals.specs.Escape.{decoded}
use Rattle.py_lexer.specs.declared.token.Kind.TheVariants as kinds
use Rattle.py_lexer.specs.declared.token.Value.TheVariants as values
use Rattle.py_lexer.specs.declared.state.State.{State}
use Rattle.py_lexer.specs.Chars.{is_line_end}
use Rattle.py_lexer.specs.Front.{Found}
use Rattle.py_lexer.specs.Strings.{string}
use Rattle.py_lexer.specs.Quick.{is_plain_in}
use Rattle.py_lexer.proofs.Unchanged.{own_value}

plain_parts : (q c : ℕ) → is_plain_in q c ≡ true → ((c == q) ≡ false) × (((c == 92) ≡ false) × ((c == 10) ≡ false))
plain_parts q c h =
    let p = or_parts (c == q) ((c == 92) || (c == 10)) (not-true ((c == q) || ((c == 92) || (c == 10))) h) in
    let r = or_parts (c == 92) (c == 10) p.1 in
    (p.0, (r.0, r.1))

first_is : (q c : ℕ) (cs : List ℕ) → take 1 (c ∷ cs) ≡ q ∷ [] → c ≡ q
first_is q c cs h = ap (λ (xs : List ℕ). get_or xs 0 0) h

no_first : (q : ℕ) → ◌≡◌ {A = List ℕ} [] (q ∷ []) → ⊥
no_first q h = cc

-- the body of such a string

abbrev string_in : ℕ → StringKind
string_in q = record { quote = q; triple = false; raw = false; bytes = false; formatted = false }

near_body_by : (q c : ℕ) (cs : List ℕ) (b : Bool) → is_plain_in q c ≡ b → take 1 (drop (cond b (1 + prefix_len (is_plain_in q) cs) 0) (c ∷ cs)) ≡ q ∷ [] → (take 1 (drop (prefix_len (is_plain_in q) cs) cs) ≡ q ∷ [] → body_len (string_in q) cs ≡ Some (prefix_len (is_plain_in q) cs)) → body_len (string_in q) (c ∷ cs) ≡ Some (cond b (1 + prefix_len (is_plain_in q) cs) 0)
near_body_by q c [] true e h more = absurd (no_first q h)
near_body_by q c (d ∷ ds) true e h more =
    let p = plain_parts q c e in
    let m : 1 + prefix_len (is_plain_in q) (d ∷ ds) ≡ suc (prefix_len (is_plain_in q) (d ∷ ds)) = omega arith in
    rw (p.0, p.1.0, p.1.1, more (rw m at h)) refl
near_body_by q c cs false e h more = let same : (c == q) ≡ true = eq-eqb c q (first_is q c cs h) in rw same refl

near_body : (q : ℕ) (cs : List ℕ) → take 1 (drop (prefix_len (is_plain_in q) cs) cs) ≡ q ∷ [] → body_len (string_in q) cs ≡ Some (prefix_len (is_plain_in q) cs)
near_body q [] h = absurd (no_first q h)
near_body q (c ∷ cs) h = near_body_by q c cs (is_plain_in q c) refl h (near_body q cs)

-- no escape stands in it

no_escape_by : (q c : ℕ) (cs : List ℕ) (b : Bool) → is_plain_in q c ≡ b → list_any (λ d. d == 92) (take (prefix_len (is_plain_in q) cs) cs) ≡ false → list_any (λ d. d == 92) (take (cond b (1 + prefix_len (is_plain_in q) cs) 0) (c ∷ cs)) ≡ false
no_escape_by q c cs true e h =
    let m : 1 + prefix_len (is_plain_in q) cs ≡ suc (prefix_len (is_plain_in q) cs) = omega arith in
    rw m (or_from (c == 92) _ ((plain_parts q c e).1.0) h)
no_escape_by q c cs false e h = refl

no_escape : (q : ℕ) (cs : List ℕ) → list_any (λ d. d == 92) (take (prefix_len (is_plain_in q) cs) cs) ≡ false
no_escape q [] = refl
no_escape q (c ∷ cs) = no_escape_by q c cs (is_plain_in q c) refl (no_escape q cs)

-- and with its quotes it stands in one line

near_in_line_by : (q c : ℕ) (cs : List ℕ) (b : Bool) → is_plain_in q c ≡ b → is_line_end q ≡ false → take 1 (drop (cond b (1 + prefix_len (is_plain_in q) cs) 0) (c ∷ cs)) ≡ q ∷ [] → (take 1 (drop (prefix_len (is_plain_in q) cs) cs) ≡ q ∷ [] → list_any is_line_end (take (suc (prefix_len (is_plain_in q) cs)) cs) ≡ false) → list_any is_line_end (take (suc (cond b (1 + prefix_len (is_plain_in q) cs) 0)) (c ∷ cs)) ≡ false
near_in_line_by q c cs true e t h more =
    let m : 1 + prefix_len (is_plain_in q) cs ≡ suc (prefix_len (is_plain_in q) cs) = omega arith in
    rw m (or_from (is_line_end c) _ ((plain_parts q c e).1.1) (more (rw m at h)))
near_in_line_by q c cs false e t h more = rw (first_is q c cs h) (or_from (is_line_end q) false t refl)

near_in_line : (q : ℕ) (cs : List ℕ) → is_line_end q ≡ false → take 1 (drop (prefix_len (is_plain_in q) cs) cs) ≡ q ∷ [] → list_any is_line_end (take (suc (prefix_len (is_plain_in q) cs)) cs) ≡ false
near_in_line q [] t h = refl
near_in_line q (c ∷ cs) t h = near_in_line_by q c cs (is_plain_in q c) refl t h (near_in_line q cs t)

quote_in_line : (q : ℕ) → is_quote q ≡ true → is_line_end q ≡ false
quote_in_line q t = grind (arith, nat_tests)

first_other_by : (q b n : ℕ) (cs : List ℕ) (t : Bool) → is_plain_in q b ≡ t → 0 < n → n ≡ cond t (1 + prefix_len (is_plain_in q) cs) 0 → (b == q) ≡ false
first_other_by q b n cs true e some is = (plain_parts q b e).0
first_other_by q b n cs false e some is = absurd (omega (arith, is))

first_other : (q b : ℕ) (cs : List ℕ) (n : ℕ) → 0 < n → n ≡ prefix_len (is_plain_in q) (b ∷ cs) → (b == q) ≡ false
first_other q b cs n some is = first_other_by q b n cs (is_plain_in q b) refl some is

pub near_one_line : (q n : ℕ) (cs : List ℕ) → is_quote q ≡ true → n ≡ prefix_len (is_plain_in q) cs → take 1 (drop n cs) ≡ q ∷ [] → list_any is_line_end (take (n + 2) (q ∷ cs)) ≡ false
near_one_line q n cs t e h =
    let m : n + 2 ≡ suc (suc n) = omega arith in
    let inside : is_line_end q ≡ false = quote_in_line q t in
    rw m (or_from (is_line_end q) _ inside (subst (λ (k : ℕ). list_any is_line_end (take (suc k) cs) ≡ false) (sym e) (near_in_line q cs inside (rw e at h))))

-- the string of such a body

near_whole : (s : State) (q b c : ℕ) (cs : List ℕ) (n : ℕ) → is_quote q ≡ true → (b == q) ≡ false → body_len (string_in q) (b ∷ c ∷ cs) ≡ Some n → n ≤ length (b ∷ c ∷ cs) → decoded (string_in q) (take n (b ∷ c ∷ cs)) ≡ Ok (take n (b ∷ c ∷ cs)) → string s (q ∷ b ∷ c ∷ cs) ≡ Found (n + 2) kinds.Text (values.Text (encode_utf8_all (take n (b ∷ c ∷ cs)))) s
near_whole s q b c cs n t other body le value =
    let size : length (take n (b ∷ c ∷ cs)) ≡ n = omega (arith, length-take n (b ∷ c ∷ cs)) in
    let sum : (1 + n) + 1 ≡ n + 2 = omega arith in
    rw (t, other, body, value, size, sum) refl

near_string_by : (s : State) (q : ℕ) (cs : List ℕ) (n : ℕ) → is_quote q ≡ true → 0 < n → n < length cs → n ≡ prefix_len (is_plain_in q) cs → body_len (string_in q) cs ≡ Some n → decoded (string_in q) (take n cs) ≡ Ok (take n cs) → string s (q ∷ cs) ≡ Found (n + 2) kinds.Text (values.Text (encode_utf8_all (take n cs))) s
near_string_by s q [] n t some lt e body value = absurd (omega arith)
near_string_by s q (b ∷ []) n t some lt e body value = absurd (omega arith)
near_string_by s q (b ∷ c ∷ cs) n t some lt e body value = near_whole s q b c cs n t (first_other q b (c ∷ cs) n some e) body (omega arith) value

pub near_string : (s : State) (q n : ℕ) (cs : List ℕ) → is_quote q ≡ true → 0 < n → n < length cs → n ≡ prefix_len (is_plain_in q) cs → take 1 (drop n cs) ≡ q ∷ [] → Found (n + 2) kinds.Text (values.Text (encode_utf8_all (take n cs))) s ≡ string s (q ∷ cs)
near_string s q n cs t some lt e h =
    let body : body_len (string_in q) cs ≡ Some n = near_body q cs (rw e at h) ∙ ap Some (sym e) in
    let plain : list_any (λ d. d == 92) (take n cs) ≡ false = rw e (no_escape q cs) in
    sym (near_string_by s q cs n t some lt e body (own_value (string_in q) (take n cs) refl plain))
