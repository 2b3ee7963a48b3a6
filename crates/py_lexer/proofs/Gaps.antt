-- What stands between tokens: gaps behind one another, and those at the front of a text.
use Rattle.std.proofs.Common.{◌≡◌, ℕ, suc, ◌+◌, Bool, true, false, not, cond, eqb, ◌&&◌, List, [], ◌∷◌, ◌++◌, take, drop, IsTrue, refl, sym, subst, append_assoc, append-nil, take-add, drop-drop, take-append-drop, arith}
use Rattle.std.proofs.lemmas.Bool.{and_parts, eqb-true}
use Rattle.std.specs.List.{prefix_len, list_all}
use Rattle.py_lexer.specs.Chars.{is_white, is_line_end, is_in_line}
use Rattle.py_lexer.specs.Margin.{gap_len}
use Rattle.py_lexer.specs.Layout.{at_line_end, IsGap, none, white, line_end, join, comment}
use Rattle.py_lexer.proofs.WordLemmas.{front_passes}

-- a gap before a gap
pub gap_append : (next rest : List ℕ) {gap : List ℕ} → IsGap (next ++ rest) gap → IsGap rest next → IsGap rest (gap ++ next)
gap_append next rest none h = h
gap_append next rest (white w g) h = white w (gap_append next rest g h)
gap_append next rest (line_end g) h = line_end (gap_append next rest g h)
gap_append next rest (join g) h = join (gap_append next rest g h)
gap_append next rest (comment ds {cs = cs} a e g) h =
    let t : IsTrue (at_line_end ((cs ++ next) ++ rest)) = rw (append_assoc cs next rest) e in
    subst (λ (v : List ℕ). IsGap rest (35 ∷ v)) (sym (append_assoc ds cs next)) (comment ds a t (gap_append next rest g h))

-- m more characters behind a gap of n
pub gap_more : (cs : List ℕ) (n m : ℕ) → IsGap (drop n cs) (take n cs) → IsGap (drop m (drop n cs)) (take m (drop n cs)) → IsGap (drop (n + m) cs) (take (n + m) cs)
gap_more cs n m g h =
    let k : IsGap (take m (drop n cs) ++ drop m (drop n cs)) (take n cs) = subst (λ (v : List ℕ). IsGap v (take n cs)) (sym (take-append-drop m (drop n cs))) g in
    rw (take-add n m cs, ← drop-drop m n cs) (gap_append (take m (drop n cs)) (drop m (drop n cs)) k h)

-- white space
pub gap_white : (xs rest : List ℕ) → list_all is_white xs ≡ true → IsGap rest xs
gap_white [] rest h = none
gap_white (x ∷ xs) rest h = let p = and_parts (is_white x) (list_all is_white xs) h in white p.0 (gap_white xs rest p.1)

-- a comment
line_stops_by : (x : ℕ) (xs : List ℕ) (b : Bool) → is_line_end x ≡ b → at_line_end (drop (prefix_len is_in_line xs) xs) ≡ true → at_line_end (drop (cond (not b) (1 + prefix_len is_in_line xs) 0) (x ∷ xs)) ≡ true
line_stops_by x xs true e h = e
line_stops_by x xs false e h = let m : 1 + prefix_len is_in_line xs ≡ suc (prefix_len is_in_line xs) = omega arith in rw m h

line_stops : (xs : List ℕ) → at_line_end (drop (prefix_len is_in_line xs) xs) ≡ true
line_stops [] = refl
line_stops (x ∷ xs) = line_stops_by x xs (is_line_end x) refl (line_stops xs)

pub gap_comment : (c : ℕ) (xs : List ℕ) → c ≡ 35 → IsGap (drop (1 + prefix_len is_in_line xs) (c ∷ xs)) (take (1 + prefix_len is_in_line xs) (c ∷ xs))
gap_comment c xs e =
    let n = prefix_len is_in_line xs in
    let m : 1 + prefix_len is_in_line xs ≡ suc (prefix_len is_in_line xs) = omega arith in
    let g : IsGap (drop n xs) (35 ∷ (take n xs ++ [])) = comment (take n xs) (front_passes is_in_line xs) (line_stops xs) none in
    rw (m, e) (subst (λ (v : List ℕ). IsGap (drop n xs) (35 ∷ v)) (append-nil (take n xs)) g)

-- white space and joins at the front
gap_one : (c : ℕ) (w : Bool) → is_white c ≡ w → IsGap (drop (cond w 1 0) (c ∷ [])) (take (cond w 1 0) (c ∷ []))
gap_one c true e = white e none
gap_one c false e = none

pub gap_join : (c d : ℕ) (ds rest : List ℕ) → c ≡ 92 → d ≡ 10 → IsGap rest ds → IsGap rest (c ∷ d ∷ ds)
gap_join c d ds rest e f g = rw (e, f) (join g)

gap_two : (c d : ℕ) (ds : List ℕ) (w j : Bool) → is_white c ≡ w → (eqb c 92 && is_line_end d) ≡ j
    → IsGap (drop (gap_len (d ∷ ds)) (d ∷ ds)) (take (gap_len (d ∷ ds)) (d ∷ ds)) → IsGap (drop (gap_len ds) ds) (take (gap_len ds) ds)
    → IsGap (drop (cond w (1 + gap_len (d ∷ ds)) (cond j (2 + gap_len ds) 0)) (c ∷ d ∷ ds)) (take (cond w (1 + gap_len (d ∷ ds)) (cond j (2 + gap_len ds) 0)) (c ∷ d ∷ ds))
gap_two c d ds true j e f g h = let m : 1 + gap_len (d ∷ ds) ≡ suc (gap_len (d ∷ ds)) = omega arith in rw m (white e g)
gap_two c d ds false true e f g h =
    let m : 2 + gap_len ds ≡ suc (suc (gap_len ds)) = omega arith in
    let p = and_parts (eqb c 92) (is_line_end d) f in
    rw m (gap_join c d (take (gap_len ds) ds) (drop (gap_len ds) ds) (eqb-true c 92 p.0) (eqb-true d 10 p.1) h)
gap_two c d ds false false e f g h = none

pub gap_front : (cs : List ℕ) → IsGap (drop (gap_len cs) cs) (take (gap_len cs) cs)
gap_front [] = none
gap_front (c ∷ []) = gap_one c (is_white c) refl
gap_front (c ∷ d ∷ ds) = gap_two c d ds (is_white c) (eqb c 92 && is_line_end d) refl refl (gap_front (d ∷ ds)) (gap_front ds)
