-- What stands between tokens and is passed as soon as it is told.
use Rattle.std.proofs.Common.{◌≡◌, ℕ, suc, ◌+◌, ◌-◌, ◌<◌, ◌≤◌, ◌⊎◌, inl, inr, Bool, true, false, cond, eqb, ◌||◌, List, [], ◌∷◌, length, take, drop, length-take, length-drop, Option, Some, None, IfSome, MatchOption, refl, sym, ap, subst, ◌∙◌, arith}
use Rattle.std.specs.Prelude.{nat_lt}
use Rattle.std.specs.List.{prefix_len, list_all, list_any}
use Rattle.std.proofs.lemmas.Bool.{and_parts, or_parts, or_from, eqb-true, false≢true}
use Rattle.std.proofs.lemmas.Bool.Decides.{nat_tests}
use Rattle.py_literals.specs.declared.place.Pos.{Pos}
use Rattle.py_literals.specs.Place.{after}
use Rattle.py_lexer.specs.declared.token.Token.{Token}
use Rattle.py_lexer.specs.declared.state.Mode.TheVariants as modes
use Rattle.py_lexer.specs.declared.state.White.{White}
use Rattle.py_lexer.specs.declared.state.White.TheVariants.{Spaces, Tabs}
use Rattle.py_lexer.specs.declared.state.State.{State}
use Rattle.py_lexer.specs.Chars.{is_white, is_line_end}
use Rattle.py_lexer.specs.Stack.{top}
use Rattle.py_lexer.specs.Front.{Passed}
use Rattle.py_lexer.specs.Margin.{gap_len, feeds_len, is_of, white_of, column_of, indented, margin}
use Rattle.py_lexer.specs.Pieces.{piece_by, piece}
use Rattle.py_lexer.specs.Gap.{is_space, is_gap, gap_next, white_fits, IsBehindGap}
use Rattle.py_lexer.proofs.WordLemmas.{front_passes}
use Rattle.py_lexer.proofs.Sizes.{size}
use Rattle.py_lexer.proofs.QuickLemmas.{place_behind}
use Rattle.py_lexer.proofs.Runs.{Leads, leads_passed, passed_shrinks}

abbrev spaces : List ℕ → ℕ
spaces cs = prefix_len is_space cs

space_white : (c : ℕ) → is_space c ≡ true → is_white c ≡ true
space_white c e = ap is_white (eqb-true c 32 e)

no_gap : (c : ℕ) → is_gap c ≡ false → (is_white c ≡ false) × ((is_line_end c ≡ false) × ((eqb c 35 ≡ false) × (eqb c 92 ≡ false)))
no_gap c h =
    let p = or_parts (is_white c) (is_line_end c || (eqb c 35 || eqb c 92)) h in
    let q = or_parts (is_line_end c) (eqb c 35 || eqb c 92) p.1 in
    let r = or_parts (eqb c 35) (eqb c 92) q.1 in
    (p.0, (q.0, (r.0, r.1)))

-- the white space before a token is the spaces at the front

gap_space : (c : ℕ) (cs : List ℕ) → is_white c ≡ true → gap_len (c ∷ cs) ≡ 1 + gap_len cs
gap_space c [] w = rw w refl
gap_space c (d ∷ ds) w = rw w refl

gap_none : (c : ℕ) (cs : List ℕ) → is_gap c ≡ false → gap_len (c ∷ cs) ≡ 0
gap_none c [] h = let p = no_gap c h in rw p.0 refl
gap_none c (d ∷ ds) h = let p = no_gap c h in rw (p.0, p.1.1.1) refl

gap_by : (c : ℕ) (cs : List ℕ) (b : Bool) → is_space c ≡ b → (gap_next (drop (spaces cs) cs) ≡ false → gap_len cs ≡ spaces cs) → gap_next (drop (cond b (1 + spaces cs) 0) (c ∷ cs)) ≡ false → gap_len (c ∷ cs) ≡ cond b (1 + spaces cs) 0
gap_by c cs true e ih h =
    let m : 1 + spaces cs ≡ suc (spaces cs) = omega arith in
    let g : gap_next (drop (spaces cs) cs) ≡ false = rw m at h in
    gap_space c cs (space_white c e) ∙ ap (λ n. 1 + n) (ih g)
gap_by c cs false e ih h = gap_none c cs h

gap_spaces : (cs : List ℕ) → gap_next (drop (spaces cs) cs) ≡ false → gap_len cs ≡ spaces cs
gap_spaces [] h = absurd (false≢true (sym h))
gap_spaces (c ∷ cs) h = gap_by c cs (is_space c) refl (gap_spaces cs) h

white_by : (c : ℕ) (cs : List ℕ) (b : Bool) → is_space c ≡ b → (gap_next (drop (spaces cs) cs) ≡ false → prefix_len is_white cs ≡ spaces cs) → gap_next (drop (cond b (1 + spaces cs) 0) (c ∷ cs)) ≡ false → prefix_len is_white (c ∷ cs) ≡ cond b (1 + spaces cs) 0
white_by c cs true e ih h =
    let m : 1 + spaces cs ≡ suc (spaces cs) = omega arith in
    let g : gap_next (drop (spaces cs) cs) ≡ false = rw m at h in
    rw (space_white c e) (ap (λ n. 1 + n) (ih g))
white_by c cs false e ih h = let p = no_gap c h in rw p.0 refl

white_spaces : (cs : List ℕ) → gap_next (drop (spaces cs) cs) ≡ false → prefix_len is_white cs ≡ spaces cs
white_spaces [] h = refl
white_spaces (c ∷ cs) h = white_by c cs (is_space c) refl (white_spaces cs) h

no_feed : (c : ℕ) (cs : List ℕ) → eqb c 12 ≡ false → feeds_len (c ∷ cs) ≡ 0
no_feed c cs e = rw e refl

feeds_by : (c : ℕ) (cs : List ℕ) (b : Bool) → is_space c ≡ b → gap_next (drop (cond b (1 + spaces cs) 0) (c ∷ cs)) ≡ false → feeds_len (c ∷ cs) ≡ 0
feeds_by c cs true e h = no_feed c cs (ap (λ n. eqb n 12) (eqb-true c 32 e))
feeds_by c cs false e h =
    let p = no_gap c h in
    let q = or_parts (eqb c 32) (eqb c 9 || eqb c 12) p.0 in
    let r = or_parts (eqb c 9) (eqb c 12) q.1 in
    no_feed c cs r.1

feeds_none : (cs : List ℕ) → gap_next (drop (spaces cs) cs) ≡ false → feeds_len cs ≡ 0
feeds_none [] h = refl
feeds_none (c ∷ cs) h = feeds_by c cs (is_space c) refl h

-- their column, and their kind

not_empty : (c : ℕ) (cs : List ℕ) → eqb (length (c ∷ cs)) 0 ≡ true → ⊥
not_empty c cs h = let e : length (c ∷ cs) ≡ 0 = eqb-true (length (c ∷ cs)) 0 h in omega arith

white_still : (w : Option White) (indent : List ℕ) → white_fits w (length indent) ≡ true → white_of w indent ≡ w
white_still (Some w) indent h = refl
white_still None [] h = refl
white_still None (c ∷ cs) h = absurd (not_empty c cs h)

all_alike : (cs : List ℕ) → list_all is_space cs ≡ true → prefix_len is_space cs ≡ length cs
all_alike [] h = refl
all_alike (c ∷ cs) h =
    let p = and_parts (is_space c) (list_all is_space cs) h in
    let m : 1 + length cs ≡ length (c ∷ cs) = omega arith in
    rw p.0 (ap (λ n. 1 + n) (all_alike cs p.1) ∙ m)

alike : (w : Option White) (indent : List ℕ) → white_fits w (length indent) ≡ true → list_all is_space indent ≡ true → prefix_len (is_of w) indent ≡ length indent
alike (Some Spaces) indent h all = all_alike indent all
alike (Some Tabs) [] h all = refl
alike (Some Tabs) (c ∷ cs) h all = absurd (not_empty c cs h)
alike None [] h all = refl
alike None (c ∷ cs) h all = absurd (not_empty c cs h)

column_is : (w : Option White) (indent : List ℕ) → white_fits w (length indent) ≡ true → column_of w (length indent) ≡ length indent
column_is (Some Spaces) indent h = refl
column_is (Some Tabs) [] h = refl
column_is (Some Tabs) (c ∷ cs) h = absurd (not_empty c cs h)
column_is None indent h = refl

not_below : (n : ℕ) → nat_lt n n ≡ false
not_below n = grind (arith, nat_tests)

indented_fits : (s : State) (n : ℕ) (indent : List ℕ) → white_fits s.white (length indent) ≡ true → list_all is_space indent ≡ true → indented s n 0 indent (white_of s.white indent) ≡ Passed n (record s { mode = modes.Indented (length indent) })
indented_fits s n indent h all =
    rw (white_still s.white indent h, alike s.white indent h all, not_below (length indent), column_is s.white indent h) refl

-- the spaces before the first token of a line
line_by : (at : Pos) (s : State) (cs line : List ℕ) → s.mode ≡ modes.LineStart → line ≡ drop (spaces cs) cs → gap_next line ≡ false → white_fits s.white (spaces cs) ≡ true → spaces cs ≤ length cs → Passed (spaces cs) (record s { mode = modes.Indented (spaces cs) }) ≡ margin s cs
line_by at s cs [] m e g w le = absurd (false≢true (sym g))
line_by at s cs (c ∷ rest) m e g w le =
    let h : gap_next (drop (spaces cs) cs) ≡ false = subst (λ (ds : List ℕ). gap_next ds ≡ false) e g in
    let p = no_gap c g in
    let n : length (take (spaces cs) cs) ≡ spaces cs = omega (arith, length-take (spaces cs) cs) in
    let fits : white_fits s.white (length (take (spaces cs) cs)) ≡ true = rw n w in
    let all = front_passes is_space cs in
    rw (gap_spaces cs h, ← e, p.1.0, p.1.1.0, feeds_none cs h, white_spaces cs h, indented_fits s (spaces cs) (take (spaces cs) cs) fits all, n) refl

pub line_begins : (at : Pos) (s : State) (cs : List ℕ) → s.mode ≡ modes.LineStart → gap_next (drop (spaces cs) cs) ≡ false → white_fits s.white (spaces cs) ≡ true → spaces cs ≤ length cs → Passed (spaces cs) (record s { mode = modes.Indented (spaces cs) }) ≡ piece at s cs
line_begins at s [] m g w le = absurd (false≢true (sym g))
line_begins at s (c ∷ cs) m g w le =
    line_by at s (c ∷ cs) (drop (spaces (c ∷ cs)) (c ∷ cs)) m refl g w le ∙ ap (λ mode. piece_by mode at s c cs) (sym m)

line_entered_by : (at : Pos) (s : State) (n : ℕ) (line : List ℕ) → gap_next line ≡ false → n ≡ top s.blocks → Passed 0 (record s { mode = modes.Inside }) ≡ piece at (record s { mode = modes.Indented n }) line
line_entered_by at s n [] g e = absurd (false≢true (sym g))
line_entered_by at s n (c ∷ rest) g e = let t : eqb n (top s.blocks) ≡ true = grind (arith, nat_tests) in rw t refl

spaces_in_line : (cs : List ℕ) → list_all is_space cs ≡ true → list_any is_line_end cs ≡ false
spaces_in_line [] h = refl
spaces_in_line (c ∷ cs) h =
    let p = and_parts (is_space c) (list_all is_space cs) h in
    or_from (is_line_end c) (list_any is_line_end cs) (ap is_line_end (eqb-true c 32 p.0)) (spaces_in_line cs p.1)

pub margin_behind : (s t : State) (cs rest : List ℕ) (n : ℕ) → s.mode ≡ modes.LineStart → n ≡ spaces cs → n ≤ length cs → rest ≡ drop n cs → gap_next rest ≡ false → white_fits s.white n ≡ true → ((t ≡ record s { mode = modes.Indented n }) ⊎ ((n ≡ top s.blocks) × (t ≡ record s { mode = modes.Inside }))) → IsBehindGap s cs t rest
margin_behind s t cs rest n m e le parts g w (inl i) =
    let h : gap_next (drop (spaces cs) cs) ≡ false = rw (parts, e) at g in
    let f : white_fits s.white (spaces cs) ≡ true = rw e at w in
    record {
      n = n;
      parts = parts;
      within = le;
      in_line = rw e (spaces_in_line (take (spaces cs) cs) (front_passes is_space cs));
      between = record s { mode = modes.Indented n };
      passed = λ at. rw e (line_begins at s cs m h f (rw e at le));
      entered = inl i;
    }
margin_behind s t cs rest n m e le parts g w (inr i) =
    let h : gap_next (drop (spaces cs) cs) ≡ false = rw (parts, e) at g in
    let f : white_fits s.white (spaces cs) ≡ true = rw e at w in
    let k : gap_next (drop n cs) ≡ false = rw parts at g in
    record {
      n = n;
      parts = parts;
      within = le;
      in_line = rw e (spaces_in_line (take (spaces cs) cs) (front_passes is_space cs));
      between = record s { mode = modes.Indented n };
      passed = λ at. rw e (line_begins at s cs m h f (rw e at le));
      entered = inr (λ at. rw i.1 (line_entered_by at s n (drop n cs) k i.0));
    }

-- where nothing is entered
pub gap_told : {X : Type 0} (r : Option X) (now : X → List ℕ) (s : State) (cs : List ℕ) → IfSome r (λ x. IsBehindGap s cs s (now x)) → MatchOption r (s ≡ s) (λ x. IsBehindGap s cs s (now x))
gap_told None now s cs h = refl
gap_told (Some x) now s cs h = h

-- what is read behind them

gap_len_is : (cs : List ℕ) (n : ℕ) → n ≤ length cs → length cs - length (drop n cs) ≡ n
gap_len_is cs n le = omega (arith, length-drop n cs)

entered_leads : (text : List ℕ) (before : List Token) (at : Pos) (s t : State) (cs : List ℕ) → Leads text before at s cs → ((t ≡ s) ⊎ ((at : Pos) → Passed 0 t ≡ piece at s cs)) → Leads text before at t cs
entered_leads text before at s t cs l (inl e) = rw e l
entered_leads text before at s t cs l (inr h) = leads_passed text before at s t cs 0 l (h at)

entered_size : (s t : State) (cs : List ℕ) → ((t ≡ s) ⊎ ((at : Pos) → Passed 0 t ≡ piece at s cs)) → size t cs ≤ size s cs
entered_size s t cs (inl e) = rw e (omega arith)
entered_size s t cs (inr h) =
    let k : size t cs < size s cs = passed_shrinks (record { line = 1; col = 1 }) s t cs 0 (h (record { line = 1; col = 1 })) in
    omega arith

pub gap_leads : (text : List ℕ) (before : List Token) (at : Pos) (s t : State) (cs rest : List ℕ) → Leads text before at s cs → IsBehindGap s cs t rest → Leads text before (record { line = at.line; col = at.col + (length cs - length rest) }) t rest
gap_leads text before at s t cs rest l h =
    rw (h.parts, gap_len_is cs h.n h.within, ← place_behind at cs h.n h.in_line h.within)
    (entered_leads text before (after at (take h.n cs)) h.between t (drop h.n cs) (leads_passed text before at s h.between cs h.n l (h.passed at)) h.entered)

pub gap_shrinks : (at : Pos) (s t : State) (cs rest : List ℕ) → IsBehindGap s cs t rest → size t rest < size s cs
gap_shrinks at s t cs rest h =
    let a : size h.between (drop h.n cs) < size s cs = passed_shrinks at s h.between cs h.n (h.passed at) in
    let b : size t (drop h.n cs) ≤ size h.between (drop h.n cs) = entered_size h.between t (drop h.n cs) h.entered in
    let c : size t (drop h.n cs) < size s cs = omega arith in
    rw h.parts c

pub gap_line : (at : Pos) (s t : State) (cs rest : List ℕ) (m : ℕ) → IsBehindGap s cs t rest → at.line + length cs ≤ m → at.line + length rest ≤ m
gap_line at s t cs rest m h le =
    let e : length rest ≡ length (drop h.n cs) = ap length h.parts in
    omega (arith, length-drop h.n cs)

pub gap_col : (at : Pos) (s t : State) (cs rest : List ℕ) (m : ℕ) → IsBehindGap s cs t rest → at.col + length cs ≤ m → (at.col + (length cs - length rest)) + length rest ≤ m
gap_col at s t cs rest m h le =
    let e : length rest ≡ length (drop h.n cs) = ap length h.parts in
    omega (arith, length-drop h.n cs)
