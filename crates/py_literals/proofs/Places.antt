-- The place behind characters, by how many lines and columns they have.
use Rattle.std.proofs.Common.{◌≡◌, ℕ, zero, suc, ◌+◌, ◌-◌, ◌<◌, ◌≤◌, Bool, true, false, ◌==◌, ◌||◌, cond, List, [], ◌∷◌, length, drop, get_or, refl, sym, ap, ◌∙◌, arith}
use Rattle.std.specs.List.{list_any}
use Rattle.std.proofs.lemmas.List.{get_or_read}
use Rattle.std.proofs.lemmas.Bool.{eq-eqb}
use Rattle.py_literals.specs.declared.place.Pos.{Pos}
use Rattle.py_literals.specs.Place.{after, line_feeds, is_line_feed, last_len}

abbrev place : ℕ → ℕ → Pos
place line col = record { line = line; col = col }

or_true : (b c : Bool) → c ≡ true → (b || c) ≡ true
or_true true c e = refl
or_true false c e = e

-- whether a line feed stands there

none_by : (b : Bool) (n : ℕ) (t : Bool) → cond b 1 0 + n ≡ 0 → (n ≡ 0 → t ≡ false) → (b || t) ≡ false
none_by true n t e h = absurd (omega (arith, e))
none_by false n t e h = h (omega (arith, e))

none : (cs : List ℕ) → line_feeds cs ≡ 0 → list_any is_line_feed cs ≡ false
none [] e = refl
none (c ∷ cs) e = none_by (c == 10) (line_feeds cs) (list_any is_line_feed cs) e (none cs)

some_by : (b : Bool) (n : ℕ) (t : Bool) → (cond b 1 0 + n ≡ 0 → ⊥) → ((n ≡ 0 → ⊥) → t ≡ true) → (b || t) ≡ true
some_by true n t e h = refl
some_by false n t e h = h (λ z. e (omega (arith, z)))

some : (cs : List ℕ) → (line_feeds cs ≡ 0 → ⊥) → list_any is_line_feed cs ≡ true
some [] e = absurd (e refl)
some (c ∷ cs) e = some_by (c == 10) (line_feeds cs) (list_any is_line_feed cs) e (some cs)

found : (cs : List ℕ) (i : ℕ) → i < length cs → get_or cs i 0 ≡ 10 → list_any is_line_feed cs ≡ true
found [] i lt e = absurd (omega arith)
found (c ∷ cs) zero lt e = let first : (c == 10) ≡ true = eq-eqb c 10 e in rw first refl
found (c ∷ cs) (suc i) lt e = or_true (c == 10) (list_any is_line_feed cs) (found cs i (omega arith) e)

-- how many characters stand behind the last one

pub last_whole : (cs : List ℕ) → list_any is_line_feed cs ≡ false → last_len cs ≡ length cs
last_whole [] h = refl
last_whole (c ∷ cs) h = let e : 1 + length cs ≡ suc (length cs) = omega arith in rw h e

last_more : (c : ℕ) (cs : List ℕ) → list_any is_line_feed (c ∷ cs) ≡ true → last_len (c ∷ cs) ≡ last_len cs
last_more c cs h = rw h refl

pub last_behind : (cs : List ℕ) (i : ℕ) → i < length cs → get_or cs i 0 ≡ 10 → list_any is_line_feed (drop (suc i) cs) ≡ false → last_len cs ≡ length cs - suc i
last_behind [] i lt e h = absurd (omega arith)
last_behind (c ∷ cs) zero lt e h =
    let size : length cs ≡ suc (length cs) - 1 = omega arith in
    last_more c cs (found (c ∷ cs) 0 lt e) ∙ (last_whole cs h ∙ size)
last_behind (c ∷ cs) (suc i) lt e h =
    let size : length cs - suc i ≡ suc (length cs) - suc (suc i) = omega arith in
    last_more c cs (found (c ∷ cs) (suc i) lt e) ∙ (last_behind cs i (omega arith) e h ∙ size)

-- where the character before the n-th is one, and none stands behind it
pub last_from : (cs : List ℕ) (n x : ℕ) → 0 < n → n ≤ length cs → x ≡ get_or cs (n - 1) x → x ≡ 10 → list_any is_line_feed (drop n cs) ≡ false → length cs - n ≡ last_len cs
last_from cs zero x many le e ten h = absurd (omega arith)
last_from cs (suc m) x many le e ten h =
    let i : suc m - 1 ≡ m = omega arith in
    let read : x ≡ get_or cs m 0 = get_or_read cs m x (omega arith) (rw i at e) 0 in
    sym (last_behind cs m (omega arith) (sym read ∙ ten) h)

pub last_none : (cs : List ℕ) (n : ℕ) → n ≤ 0 → list_any is_line_feed (drop n cs) ≡ false → length cs - n ≡ last_len cs
last_none cs zero le h = let e : length cs - 0 ≡ length cs = omega arith in e ∙ sym (last_whole cs h)
last_none cs (suc n) le h = absurd (omega arith)

last_le_by : (b : Bool) (m n : ℕ) → m ≤ n → cond b m (1 + n) ≤ suc n
last_le_by true m n le = omega arith
last_le_by false m n le = omega arith

last_le : (cs : List ℕ) → last_len cs ≤ length cs
last_le [] = omega arith
last_le (c ∷ cs) = last_le_by (list_any is_line_feed (c ∷ cs)) (last_len cs) (length cs) (last_le cs)

last_less_by : (c : ℕ) (cs : List ℕ) → list_any is_line_feed (c ∷ cs) ≡ true → last_len (c ∷ cs) < length (c ∷ cs)
last_less_by c cs h = rw (last_more c cs h) (omega (arith, last_le cs))

pub last_less : (cs : List ℕ) → (line_feeds cs ≡ 0 → ⊥) → last_len cs < length cs
last_less [] s = absurd (s refl)
last_less (c ∷ cs) s = last_less_by c cs (some (c ∷ cs) s)

-- the place behind them

none_behind_by : (at : Pos) (c : ℕ) (cs : List ℕ) (b : Bool) → (c == 10) ≡ b → cond b 1 0 + line_feeds cs ≡ 0 → (line_feeds cs ≡ 0 → after (place at.line (at.col + 1)) cs ≡ place at.line ((at.col + 1) + last_len cs)) → after at (c ∷ cs) ≡ place at.line (at.col + last_len (c ∷ cs))
none_behind_by at c cs true e z more = absurd (omega (arith, z))
none_behind_by at c cs false e z more =
    let zero_left : line_feeds cs ≡ 0 = omega (arith, z) in
    let nothing = none cs zero_left in
    let col : (at.col + 1) + last_len cs ≡ at.col + (1 + length cs) = omega (arith, last_whole cs nothing) in
    rw (e, nothing) (more zero_left ∙ ap (λ (k : ℕ). place at.line k) col)

pub none_behind : (at : Pos) (cs : List ℕ) → line_feeds cs ≡ 0 → after at cs ≡ place at.line (at.col + last_len cs)
none_behind at [] z = let e : at.col ≡ at.col + 0 = omega arith in ap (λ (k : ℕ). place at.line k) e
none_behind at (c ∷ cs) z = none_behind_by at c cs (c == 10) refl z (none_behind (place at.line (at.col + 1)) cs)

first_behind : (line : ℕ) (cs : List ℕ) (n : ℕ) → line_feeds cs ≡ n → ((line_feeds cs ≡ 0 → ⊥) → after (place (line + 1) 1) cs ≡ place ((line + 1) + line_feeds cs) (1 + last_len cs)) → after (place (line + 1) 1) cs ≡ place (line + (1 + line_feeds cs)) (1 + last_len cs)
first_behind line cs zero e more =
    let l : line + 1 ≡ line + (1 + line_feeds cs) = omega (arith, e) in
    none_behind (place (line + 1) 1) cs e ∙ ap (λ (k : ℕ). place k (1 + last_len cs)) l
first_behind line cs (suc n) e more =
    let l : (line + 1) + line_feeds cs ≡ line + (1 + line_feeds cs) = omega arith in
    more (λ z. omega (arith, z, e)) ∙ ap (λ (k : ℕ). place k (1 + last_len cs)) l

some_behind_by : (at : Pos) (c : ℕ) (cs : List ℕ) (b : Bool) → (c == 10) ≡ b → (cond b 1 0 + line_feeds cs ≡ 0 → ⊥) → ((line_feeds cs ≡ 0 → ⊥) → after (place (at.line + 1) 1) cs ≡ place ((at.line + 1) + line_feeds cs) (1 + last_len cs)) → ((line_feeds cs ≡ 0 → ⊥) → after (place at.line (at.col + 1)) cs ≡ place (at.line + line_feeds cs) (1 + last_len cs)) → after at (c ∷ cs) ≡ place (at.line + line_feeds (c ∷ cs)) (1 + last_len (c ∷ cs))
some_behind_by at c cs true e s first more = rw e (first_behind at.line cs (line_feeds cs) refl first)
some_behind_by at c cs false e s first more =
    let left : line_feeds cs ≡ 0 → ⊥ = λ z. s (omega (arith, z)) in
    let l : at.line + line_feeds cs ≡ at.line + (0 + line_feeds cs) = omega arith in
    rw (e, some cs left) (more left ∙ ap (λ (k : ℕ). place k (1 + last_len cs)) l)

pub some_behind : (at : Pos) (cs : List ℕ) → (line_feeds cs ≡ 0 → ⊥) → after at cs ≡ place (at.line + line_feeds cs) (1 + last_len cs)
some_behind at [] s = absurd (s refl)
some_behind at (c ∷ cs) s = some_behind_by at c cs (c == 10) refl s (some_behind (place (at.line + 1) 1) cs) (some_behind (place at.line (at.col + 1)) cs)
