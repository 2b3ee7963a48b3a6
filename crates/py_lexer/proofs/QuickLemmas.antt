-- Tokens that are pushed as soon as they are told.
use Rattle.std.proofs.Common.{◌≡◌, ℕ, zero, suc, ◌+◌, ◌-◌, ◌<◌, ◌≤◌, true, false, List, [], ◌∷◌, length, take, drop, get_or, length-take, Some, None, Result, Ok, Err, IfOk, refl, sym, ap, subst, ◌∙◌, inl, inr, arith}
use Rattle.std.specs.List.{prefix_len, list_all, list_any}
use Rattle.std.proofs.lemmas.List.{take_all}
use Rattle.std.proofs.lemmas.Bool.{cases_Bool, and_parts, or_parts, or_from, eqb-true, false≢true}
use Rattle.unicode_ident.proofs.IdentLemmas.{is_xid_continue-ascii}
use Rattle.rv_names.specs.Identifier.{is_identifier_continue}
use Rattle.py_literals.specs.declared.place.Pos.{Pos}
use Rattle.py_literals.specs.Place.{after}
use Rattle.py_literals.specs.Text.{opening}
use Rattle.py_lexer.specs.declared.chars.Class.{Class}
use Rattle.py_lexer.specs.declared.chars.Class.TheVariants.{LineEnd, Letter, Sign, Dot, Quote}
use Rattle.py_lexer.specs.declared.token.Kind.{Kind}
use Rattle.py_lexer.specs.declared.token.Token.{Token}
use Rattle.py_lexer.specs.declared.token.Value.TheVariants.{Nothing}
use Rattle.py_lexer.specs.declared.state.Mode.TheVariants as modes
use Rattle.py_lexer.specs.declared.state.State.{State}
use Rattle.py_lexer.specs.Chars.{class_of, is_line_end, is_quote, is_digit}
use Rattle.py_lexer.specs.Front.{Front, Found, front_of_lexeme}
use Rattle.py_lexer.specs.Operators.{sign, may_go_on}
use Rattle.py_lexer.specs.Words.{next_is, word, word_len}
use Rattle.py_lexer.specs.Strings.{string}
use Rattle.py_lexer.specs.Inside.{bracketed, operator}
use Rattle.py_lexer.specs.Pieces.{piece}
use Rattle.py_lexer.specs.Quick.{IsPushed, IsLineEnded, has_quote_near}
use Rattle.py_lexer.proofs.OperatorLemmas.{alone}
use Rattle.py_lexer.proofs.WordLemmas.{front_passes}
use Rattle.py_lexer.proofs.StringFits.{no_opening_three}
use Rattle.py_lexer.proofs.NoLonger.{Says, class_says}
use Rattle.py_lexer.proofs.Places.{after_in_line}
use Rattle.py_lexer.proofs.Sizes.{size}
use Rattle.py_lexer.proofs.Runs.{Leads, leads_found, leads_passed, found_shrinks, passed_shrinks, moved_line, moved_col}

-- a first character, and the rest
pub parts_at : (cs : List ℕ) (a : ℕ) → 1 ≤ length cs → a ≡ get_or cs 0 a → cs ≡ a ∷ take (length cs - 1) (drop 1 cs)
parts_at [] a le e = absurd (omega arith)
parts_at (c ∷ cs) a le e =
    let whole : take (length (c ∷ cs) - 1) cs ≡ cs = take_all (length (c ∷ cs) - 1) cs (omega arith) in
    rw (e, whole) refl

-- an operator of one character, with the next one behind it
pub sign_found : (at : Pos) (s : State) (a : ℕ) (rest : List ℕ) (k : Kind) → 1 ≤ length rest → may_go_on (get_or rest 0 0) ≡ false → Some k ≡ sign a → Found 1 k Nothing (bracketed at s a) ≡ operator at s a rest
sign_found at s a [] k le h e = absurd (omega arith)
sign_found at s a (b ∷ cs) k le h e = rw (alone (a ∷ b ∷ cs) (omega arith) h, ← e) refl

-- no string begins with a letter that has no quote near
no_opening_near : (a : ℕ) (rest : List ℕ) → is_quote a ≡ false → has_quote_near rest ≡ false → opening (a ∷ rest) ≡ None
no_opening_near a [] q h = absurd (false≢true (sym h))
no_opening_near a (b ∷ []) q h = absurd (false≢true (sym h))
no_opening_near a (b ∷ c ∷ cs) q h = let p = or_parts (is_quote b) (is_quote c) h in no_opening_three a b c cs q p.0 p.1

says_at : (c : ℕ) (k : Class) → class_of c ≡ k → Says k c
says_at c k e = rw e at (class_says c)

-- a letter that has no quote near begins a word
pub word_here : (at : Pos) (s : State) (a : ℕ) (rest cs : List ℕ) → cs ≡ a ∷ rest → s.mode ≡ modes.Inside → class_of a ≡ Letter → has_quote_near rest ≡ false → piece at s cs ≡ front_of_lexeme (word cs) s
word_here at s a rest cs parts m e h =
    let says : Says Letter a = says_at a Letter e in
    rw (parts, m, e, no_opening_near a rest says.1 h) refl

pub quote_says : (a : ℕ) → class_of a ≡ Quote → is_quote a ≡ true
quote_says a e = says_at a Quote e

pub quote_here : (at : Pos) (s : State) (a : ℕ) (rest cs : List ℕ) → cs ≡ a ∷ rest → s.mode ≡ modes.Inside → class_of a ≡ Quote → piece at s cs ≡ string s (a ∷ rest)
quote_here at s a rest cs parts m e = rw (parts, m, e) refl

pub sign_here : (at : Pos) (s : State) (a : ℕ) (rest cs : List ℕ) → cs ≡ a ∷ rest → s.mode ≡ modes.Inside → class_of a ≡ Sign → piece at s cs ≡ operator at s a rest
sign_here at s a rest cs parts m e = rw (parts, m, e) refl

pub dot_here : (at : Pos) (s : State) (a : ℕ) (rest cs : List ℕ) → cs ≡ a ∷ rest → s.mode ≡ modes.Inside → class_of a ≡ Dot → next_is is_digit rest ≡ false → piece at s cs ≡ operator at s a rest
dot_here at s a rest cs parts m e d = rw (parts, m, e, d) refl

-- what is pushed stands in one line

line_end_class : (c : ℕ) → is_line_end c ≡ true → class_of c ≡ LineEnd
line_end_class c t = ap class_of (eqb-true c 10 t)

pub no_line_end : (c : ℕ) (k : Class) → class_of c ≡ k → (k ≡ LineEnd → ⊥) → is_line_end c ≡ false
no_line_end c k e other =
    elim (cases_Bool (is_line_end c)) [ inl t ↦ absurd (other (sym e ∙ line_end_class c t)) | inr t ↦ t ]

continue_in_line : (c : ℕ) → is_identifier_continue c ≡ true → is_line_end c ≡ false
continue_in_line c t =
    elim (cases_Bool (is_line_end c)) [ inl u ↦ absurd (false≢true (sym (is_xid_continue-ascii 10 (omega arith)) ∙ (ap is_identifier_continue (sym (eqb-true c 10 u)) ∙ t))) | inr u ↦ u ]

all_in_line : (cs : List ℕ) → list_all is_identifier_continue cs ≡ true → list_any is_line_end cs ≡ false
all_in_line [] h = refl
all_in_line (c ∷ cs) h =
    let p = and_parts (is_identifier_continue c) (list_all is_identifier_continue cs) h in
    or_from (is_line_end c) (list_any is_line_end cs) (continue_in_line c p.0) (all_in_line cs p.1)

long_in_line : (a n : ℕ) (rest : List ℕ) → is_line_end a ≡ false → n ≡ word_len (a ∷ rest) → list_any is_line_end (take n (a ∷ rest)) ≡ false
long_in_line a n rest t e =
    let m : 1 + prefix_len is_identifier_continue rest ≡ suc (prefix_len is_identifier_continue rest) = omega arith in
    rw (e, m) (or_from (is_line_end a) _ t (all_in_line _ (front_passes is_identifier_continue rest)))

word_in_line_by : (a n : ℕ) (rest : List ℕ) → is_line_end a ≡ false → (0 < n → n ≡ word_len (a ∷ rest)) → list_any is_line_end (take n (a ∷ rest)) ≡ false
word_in_line_by a zero rest t e = refl
word_in_line_by a (suc n) rest t e = long_in_line a (suc n) rest t (e (omega arith))

pub word_in_line : (a n : ℕ) (rest cs : List ℕ) → cs ≡ a ∷ rest → is_line_end a ≡ false → (0 < n → n ≡ word_len cs) → list_any is_line_end (take n cs) ≡ false
word_in_line a n rest cs parts t e = rw parts (word_in_line_by a n rest t (rw parts at e))

one_in_line_by : (a n : ℕ) (rest : List ℕ) → is_line_end a ≡ false → n ≤ 1 → list_any is_line_end (take n (a ∷ rest)) ≡ false
one_in_line_by a zero rest t le = refl
one_in_line_by a (suc zero) rest t le = or_from (is_line_end a) false t refl
one_in_line_by a (suc (suc n)) rest t le = absurd (omega arith)

pub one_in_line : (a n : ℕ) (rest cs : List ℕ) → cs ≡ a ∷ rest → is_line_end a ≡ false → n ≤ 1 → list_any is_line_end (take n cs) ≡ false
one_in_line a n rest cs parts t le = rw parts (one_in_line_by a n rest t le)

-- what follows from a value that isn't an error
pub if_ok : {X E : Type 0} (P Q : X → Type 0) (r : Result X E) → ((x : X) → P x → Q x) → IfOk r P → IfOk r Q
if_ok P Q (Ok x) f h = f x h
if_ok P Q (Err e) f h = tt

-- behind a token that is pushed

pub pushed_at : (at : Pos) (x y : Front) (n : ℕ) (t : State) (before behind : List Token) → x ≡ y → IsPushed at y n t before behind → IsPushed at x n t before behind
pushed_at at x y n t before behind e h = record { kind = h.kind; value = h.value; found = h.found ∙ sym e; pushed = h.pushed }

pub place_behind : (at : Pos) (cs : List ℕ) (n : ℕ) → list_any is_line_end (take n cs) ≡ false → n ≤ length cs → after at (take n cs) ≡ record { line = at.line; col = at.col + n }
place_behind at cs n none le =
    let e : length (take n cs) ≡ n = omega (arith, length-take n cs) in
    after_in_line at (take n cs) none ∙ ap (λ (m : ℕ). record { line = at.line; col = at.col + m }) e

-- where nothing is pushed
pub leads_still : (text : List ℕ) (before behind : List Token) (at : Pos) (s t : State) (cs : List ℕ) → Leads text before at s cs → (behind ≡ before) × (t ≡ s) → Leads text behind at t cs
leads_still text before behind at s t cs l h = rw (h.0, h.1) l

pub size_still : (n : ℕ) (s t : State) (cs : List ℕ) → t ≡ s → n < size t cs → n < size s cs
size_still n s t cs e h = subst (λ (u : State). n < size u cs) e h

pub leads_pushed : (text : List ℕ) (before behind : List Token) (at : Pos) (s t : State) (cs : List ℕ) (n : ℕ) → Leads text before at s cs → IsPushed at (piece at s cs) n t before behind → list_any is_line_end (take n cs) ≡ false → n ≤ length cs → Leads text behind (record { line = at.line; col = at.col + n }) t (drop n cs)
leads_pushed text before behind at s t cs n l h none le =
    rw (h.pushed, ← place_behind at cs n none le) (leads_found text before at s t cs n h.kind h.value l h.found)

pub pushed_shrinks : (at : Pos) (s t : State) (cs : List ℕ) (n : ℕ) (before behind : List Token) → IsPushed at (piece at s cs) n t before behind → size t (drop n cs) < size s cs
pushed_shrinks at s t cs n before behind h = found_shrinks at s t cs n h.kind h.value h.found

pub pushed_line : (at : Pos) (cs : List ℕ) (n m : ℕ) → list_any is_line_end (take n cs) ≡ false → n ≤ length cs → at.line + length cs ≤ m → at.line + length (drop n cs) ≤ m
pushed_line at cs n m none le h = rw (place_behind at cs n none le) at (moved_line at cs n m h)

pub pushed_col : (at : Pos) (cs : List ℕ) (n m : ℕ) → list_any is_line_end (take n cs) ≡ false → n ≤ length cs → at.col + length cs ≤ m → (at.col + n) + length (drop n cs) ≤ m
pushed_col at cs n m none le h = rw (place_behind at cs n none le) at (moved_col at cs n m h)

-- nothing is pushed in turn
pub still_twice : (xs ys : List Token) (s t u : State) → t ≡ s → (ys ≡ xs) × (u ≡ t) → (ys ≡ xs) × (u ≡ s)
still_twice xs ys s t u e h = (h.0, h.1 ∙ e)

pub still_thrice : (xs ys zs : List Token) (s t u v : State) → t ≡ s → (ys ≡ xs) × (u ≡ t) → (zs ≡ ys) × (v ≡ u) → (zs ≡ xs) × (v ≡ s)
still_thrice xs ys zs s t u v e h k = (k.0 ∙ h.0, k.1 ∙ (h.1 ∙ e))

-- behind the end of a line
pub leads_ended : (text : List ℕ) (before behind : List Token) (at : Pos) (s t : State) (cs : List ℕ) → Leads text before at s cs → IsLineEnded at (piece at s cs) t before behind → take 1 cs ≡ 10 ∷ [] → Leads text behind (after at (10 ∷ [])) t (drop 1 cs)
leads_ended text before behind at s t cs l (inl h) e = rw h.pushed (rw e at (leads_found text before at s t cs 1 h.kind h.value l h.found))
leads_ended text before behind at s t cs l (inr h) e = rw h.1 (rw e at (leads_passed text before at s t cs 1 l h.0))

pub ended_shrinks : (at : Pos) (s t : State) (cs : List ℕ) (before behind : List Token) → IsLineEnded at (piece at s cs) t before behind → size t (drop 1 cs) < size s cs
ended_shrinks at s t cs before behind (inl h) = pushed_shrinks at s t cs 1 before behind h
ended_shrinks at s t cs before behind (inr h) = passed_shrinks at s t cs 1 h.0

pub ended_line : (at : Pos) (cs : List ℕ) (m : ℕ) → take 1 cs ≡ 10 ∷ [] → at.line + length cs ≤ m → (after at (10 ∷ [])).line + length (drop 1 cs) ≤ m
ended_line at cs m e h = rw e at (moved_line at cs 1 m h)

pub ended_col : (at : Pos) (cs : List ℕ) (m : ℕ) → take 1 cs ≡ 10 ∷ [] → at.col + length cs ≤ m → (after at (10 ∷ [])).col + length (drop 1 cs) ≤ m
ended_col at cs m e h = rw e at (moved_col at cs 1 m h)
