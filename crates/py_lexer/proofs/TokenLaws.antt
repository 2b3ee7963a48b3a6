-- A text's tokens lie in it in order, each the longest possible.
use Rattle.std.proofs.Common.{◌≡◌, inl, inr, ◌+◌, Bool, true, false, cond, eqb, arith, ℕ, List, [], ◌∷◌, ◌++◌, length, take, drop, refl, sym, ap, subst, ◌∙◌, append_assoc, append-nil, take-append-drop, length-take-le}
use Rattle.py_literals.specs.declared.place.Pos.{Pos}
use Rattle.py_literals.specs.Place.{past, after}
use Rattle.py_lexer.specs.declared.token.Kind.{Kind}
use Rattle.py_lexer.specs.declared.token.Value.{Value}
use Rattle.py_lexer.specs.declared.token.Token.{Token}
use Rattle.py_lexer.specs.declared.state.State.{State}
use Rattle.py_lexer.specs.Front.{Found, Passed, Over}
use Rattle.py_lexer.specs.Source.{source_chars}
use Rattle.py_lexer.specs.Runs.{token, Tokens, over, found, passed, HasTokens, first_place}
use Rattle.py_lexer.specs.Layout.{IsGap, none, IsLongest, IsUpTo, IsInOrder, IsLaidOut, ended, next, IsMatchedLongest, done, more}
use Rattle.py_lexer.proofs.Gaps.{gap_append}
use Rattle.py_lexer.proofs.Fits.{Fits, Lies}
use Rattle.py_lexer.proofs.Fields.{IsOpen, Keeps, piece_lies, piece_keeps}

after_append : (at : Pos) (xs ys : List ℕ) → after at (xs ++ ys) ≡ after (after at xs) ys
after_append at [] ys = refl
after_append at (x ∷ xs) ys = after_append (past at x) xs ys

-- a gap before cs, by parts of cs
before_parts : (gap cs : List ℕ) (n : ℕ) → IsGap cs gap → IsGap (take n cs ++ drop n cs) gap
before_parts gap cs n g = subst (λ (v : List ℕ). IsGap v gap) (sym (take-append-drop n cs)) g

end_matched : (before : Pos) (gap cs : List ℕ) → cs ≡ [] → IsGap cs gap → IsMatchedLongest before (gap ++ cs) []
end_matched before gap cs e g =
    let h : IsGap [] gap = subst (λ (v : List ℕ). IsGap v gap) e g in
    subst (λ (v : List ℕ). IsMatchedLongest before (gap ++ v) []) (sym e) (rw append-nil (done h))

token_matched : (before at : Pos) (gap cs : List ℕ) (n : ℕ) (k : Kind) (v : Value) (ks : List Token) → IsGap cs gap → at ≡ after before gap → Fits k v cs n
    → IsMatchedLongest (after at (take n cs)) (drop n cs) ks → IsMatchedLongest before (gap ++ cs) (token k v at ∷ ks)
token_matched before at gap cs n k v ks g p f h =
    let P : List ℕ → Type 0 = λ w. IsLongest f.class w n in
    let l : IsLongest f.class (take n cs ++ drop n cs) n = subst P (sym (take-append-drop n cs)) f.longest in
    let Q : ℕ → Type 0 = λ m. IsLongest f.class (take n cs ++ drop n cs) m in
    let l' : IsLongest f.class (take n cs ++ drop n cs) (length (take n cs)) = subst Q (sym (length-take-le n cs f.short)) l in
    let made : IsMatchedLongest before (gap ++ (take n cs ++ drop n cs)) (token k v at ∷ ks) = more {class = f.class} (before_parts gap cs n g) p f.spelled l' h in
    subst (λ (w : List ℕ). IsMatchedLongest before (gap ++ w) (token k v at ∷ ks)) (take-append-drop n cs) made

gap_matched : (before : Pos) (gap cs : List ℕ) (n : ℕ) (ks : List Token) → IsMatchedLongest before ((gap ++ take n cs) ++ drop n cs) ks → IsMatchedLongest before (gap ++ cs) ks
gap_matched before gap cs n ks h =
    subst (λ (w : List ℕ). IsMatchedLongest before w ks) (append_assoc gap (take n cs) (drop n cs) ∙ ap (λ (w : List ℕ). gap ++ w) (take-append-drop n cs)) h

matched : {at : Pos} {s : State} {cs : List ℕ} {ks : List Token} → Tokens at s cs ks → IsOpen s.mode cs → (before : Pos) (gap : List ℕ) → IsGap cs gap → at ≡ after before gap → IsMatchedLongest before (gap ++ cs) ks
matched (over {at = at} {s = s} {cs = cs} e) o before gap g p =
    let h : Lies cs Over = rw e at (piece_lies at s cs o) in
    end_matched before gap cs h g
matched (found {at = at} {s = s} {t = t} {cs = cs} {n = n} {k = k} {v = v} {ks = ks} e h) o before gap g p =
    let f : Lies cs (Found n k v t) = rw e at (piece_lies at s cs o) in
    let kept : Keeps cs (Found n k v t) = rw e at (piece_keeps at s cs o) in
    token_matched before at gap cs n k v ks g p f (matched h kept (after at (take n cs)) [] none refl)
matched (passed {at = at} {s = s} {t = t} {cs = cs} {n = n} {ks = ks} e h) o before gap g p =
    let f : Lies cs (Passed n t) = rw e at (piece_lies at s cs o) in
    let kept : Keeps cs (Passed n t) = rw e at (piece_keeps at s cs o) in
    let place : after at (take n cs) ≡ after before (gap ++ take n cs) = ap (λ (q : Pos). after q (take n cs)) p ∙ sym (after_append before gap (take n cs)) in
    gap_matched before gap cs n ks (matched h kept before (gap ++ take n cs) (gap_append (take n cs) (drop n cs) (before_parts gap cs n g) f) place)

pub matched_longest : (text : List ℕ) (tokens : List Token) → HasTokens text tokens → IsMatchedLongest first_place (source_chars text) tokens
matched_longest text tokens h = matched h tt first_place [] none refl

-- the tokens that are the longest lie in the text
laid : {at : Pos} {cs : List ℕ} {ks : List Token} → IsMatchedLongest at cs ks → IsLaidOut at cs ks
laid (done g) = ended g
laid (more g p h l r) = next g p h (laid r)

-- they stand in order of place

up_same : (p : Pos) → IsUpTo p p
up_same p = inr (refl, omega arith)

up_trans : (p q r : Pos) → IsUpTo p q → IsUpTo q r → IsUpTo p r
up_trans p q r (inl a) (inl b) = inl (omega arith)
up_trans p q r (inl a) (inr b) = inl (omega (arith, b.0))
up_trans p q r (inr a) (inl b) = inl (omega (arith, a.0))
up_trans p q r (inr a) (inr b) = inr (a.0 ∙ b.0, omega (arith, a.1, b.1))

up_past_by : (at : Pos) (b : Bool) → IsUpTo at (cond {A = Pos} b (record { line = at.line + 1; col = 1 }) (record { line = at.line; col = at.col + 1 }))
up_past_by at true = inl (omega arith)
up_past_by at false = inr (refl, omega arith)

up_after : (at : Pos) (cs : List ℕ) → IsUpTo at (after at cs)
up_after at [] = up_same at
up_after at (c ∷ cs) = up_trans at (past at c) (after (past at c) cs) (up_past_by at (eqb c 10)) (up_after (past at c) cs)

ordered : {at : Pos} {cs : List ℕ} {ks : List Token} → IsLaidOut at cs ks → (p : Pos) → IsUpTo p at → IsInOrder p ks
ordered (ended g) p u = tt
ordered (next {at = at} {gap = gap} {spelling = spelling} {k = k} g e h r) p u =
    let up : IsUpTo at k.at = subst (λ (q : Pos). IsUpTo at q) (sym e) (up_after at gap) in
    (up_trans p at k.at u up, ordered r k.at (up_after k.at spelling))

pub in_order : (text : List ℕ) (tokens : List Token) → HasTokens text tokens → IsInOrder first_place tokens
in_order text tokens h = ordered (laid (matched_longest text tokens h)) first_place (up_same first_place)

pub laid_out : (text : List ℕ) (tokens : List Token) → HasTokens text tokens → IsLaidOut first_place (source_chars text) tokens
laid_out text tokens h = laid (matched_longest text tokens h)
