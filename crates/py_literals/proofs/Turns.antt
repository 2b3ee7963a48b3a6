-- One turn of each loop over a list.
use Rattle.std.proofs.Common.{◌≡◌, ℕ, zero, suc, ◌+◌, ◌-◌, ◌*◌, ◌<◌, ◌≤◌, Bool, true, false, not, ◌||◌, ◌&&◌, cond, eqb, List, [], ◌∷◌, ◌++◌, length, take, drop, get_or, Option, Some, None, Result, Ok, Err, refl, sym, ap, ◌∙◌, append_assoc, append-nil, arith}
use Rattle.std.specs.Option.{SomeIff, option_map}
use Rattle.std.specs.List.{list_any}
use Rattle.std.specs.Char.{digit_value}
use Rattle.std.proofs.Math.Utf8.{scalar}
use Rattle.std.proofs.lemmas.Bool.{ne_eqb, eq-eqb}
use Rattle.std.proofs.lemmas.Bool.Decides.{nat_tests}
use Rattle.py_literals.specs.declared.text.StringKind.{StringKind}
use Rattle.py_literals.specs.declared.escape.Meaning.TheVariants.{Stands, Joined, Refused}
use Rattle.py_literals.specs.Grammar.{is_digit_of}
use Rattle.py_literals.specs.Escape.{is_character, hex_from, decoded, decoded_past, behind, meaning}
use Rattle.py_literals.specs.Text.{body_len, body_len_past, item_len, is_mark, closes}
use Rattle.py_literals.specs.Formatted.{is_formed, begins_doubled, is_brace}

-- hexadecimal digits

pub hex_turn : (v n : ℕ) (rest : List ℕ) → 0 < length rest → 0 < n → is_digit_of 16 (get_or rest 0 0) ≡ true → hex_from v n rest ≡ hex_from (v * 16 + digit_value (get_or rest 0 0)) (n - 1) (drop 1 rest)
hex_turn v n [] l h t = absurd (omega arith)
hex_turn v zero (c ∷ cs) l h t = absurd (omega arith)
hex_turn v (suc n) (c ∷ cs) l h t =
    let m : suc n - 1 ≡ n = omega arith in
    rw (t, m) refl

pub hex_short : (v n : ℕ) (rest : List ℕ) → rest ≡ [] → 0 < n → hex_from v n rest ≡ None
hex_short v zero rest e h = absurd (omega arith)
hex_short v (suc n) rest e h = rw e refl

pub hex_other : (v n : ℕ) (rest : List ℕ) → 0 < n → is_digit_of 16 (get_or rest 0 0) ≡ false → hex_from v n rest ≡ None
hex_other v zero rest h t = absurd (omega arith)
hex_other v (suc n) [] h t = refl
hex_other v (suc n) (c ∷ cs) h t = rw t refl

pub character_is : (v : ℕ) → is_character v ≡ scalar v
unfolding is_character
character_is v = grind (arith, nat_tests)

not-true-false : (b : Bool) → (b ≡ true → ⊥) → b ≡ false
not-true-false true h = absurd (h refl)
not-true-false false h = refl

no_character : (v : ℕ) → 1114111 < v → is_character v ≡ false
unfolding is_character
no_character v h = grind (arith, nat_tests)

pub hex_great : (v n : ℕ) (cs : List ℕ) → 1114111 < v → hex_from v n cs ≡ None
hex_great v zero cs h = rw (no_character v h) refl
hex_great v (suc n) [] h = refl
hex_great v (suc n) (c ∷ cs) h =
    elim (is_digit_of 16 c) as (λ t. cond t (hex_from (v * 16 + digit_value c) n cs) None ≡ None)
    [ true ↦ hex_great (v * 16 + digit_value c) n cs (omega arith) | false ↦ refl ]

pub hex_end : (v n : ℕ) (rest : List ℕ) (r : Option ℕ) → n ≡ 0 → SomeIff r (scalar v ≡ true) v → r ≡ hex_from v n rest
hex_end v (suc n) rest r h s = absurd (omega arith)
hex_end v zero rest None h s =
    let no : scalar v ≡ false = not-true-false (scalar v) s in
    rw (character_is v, no) refl
hex_end v zero rest (Some w) h s = rw (character_is v, s.0) (ap (λ x. Some x) (s.1))

-- bodies

pub behind_none : (r : Result (List ℕ) ℕ) → behind [] 0 r ≡ r
behind_none (Ok vs) = refl
behind_none (Err n) = ap (λ m. Err m) (omega arith)

pub behind_behind : (us vs : List ℕ) (m n : ℕ) (r : Result (List ℕ) ℕ) → behind us m (behind vs n r) ≡ behind (us ++ vs) (m + n) r
behind_behind us vs m n (Ok ws) = ap (λ xs. Ok xs) (sym (append_assoc us vs ws))
behind_behind us vs m n (Err k) = ap (λ x. Err x) (omega arith)

-- the first n characters belong to an escape before
pub decoded_drop : (k : StringKind) (cs : List ℕ) (n : ℕ) → n ≤ length cs → decoded_past k cs n ≡ behind [] n (decoded k (drop n cs))
decoded_drop k [] zero h = refl
decoded_drop k [] (suc n) h = absurd (omega arith)
decoded_drop k (c ∷ cs) zero h = sym (behind_none (decoded_past k (c ∷ cs) 0))
decoded_drop k (c ∷ cs) (suc n) h =
    ap (λ r. behind [] 1 r) (decoded_drop k cs n (omega arith))
    ∙ behind_behind [] [] 1 n (decoded k (drop n cs))
    ∙ ap (λ m. behind [] m (decoded k (drop n cs))) (omega arith)

map_none : (r : Option ℕ) → r ≡ option_map (λ m. 0 + m) r
map_none None = refl
map_none (Some n) = ap (λ m. Some m) (omega arith)

map_map : (a b : ℕ) (r : Option ℕ) → option_map (λ m. a + m) (option_map (λ m. b + m) r) ≡ option_map (λ m. (a + b) + m) r
map_map a b None = refl
map_map a b (Some n) = ap (λ m. Some m) (omega arith)

single_char : (c : ℕ) → eqb c 125 ≡ false → not (is_brace c) ≡ is_formed (eqb c 123) []
single_char c h = grind (arith, nat_tests)

-- the first n characters belong to an item before
body_drop : (k : StringKind) (cs : List ℕ) (n : ℕ) → n ≤ length cs → body_len_past k cs n ≡ option_map (λ m. n + m) (body_len k (drop n cs))
body_drop k [] zero h = refl
body_drop k [] (suc n) h = absurd (omega arith)
body_drop k (c ∷ cs) zero h = map_none (body_len_past k (c ∷ cs) 0)
body_drop k (c ∷ cs) (suc n) h =
    ap (λ r. option_map (λ m. 1 + m) r) (body_drop k cs n (omega arith))
    ∙ map_map 1 n (body_len k (drop n cs))
    ∙ ap (λ m. option_map (λ x. m + x) (body_len k (drop n cs))) (omega arith)

-- one item more of a body
pub body_next : (k : StringKind) (rest : List ℕ) (n : ℕ) → 0 < length rest → closes k rest ≡ false → item_len k (get_or rest 0 0) (drop 1 rest) ≡ Some n → 0 < n → n ≤ length rest
    → body_len k rest ≡ option_map (λ m. n + m) (body_len k (drop n rest))
body_next k [] n l e i p h = absurd (omega arith)
body_next k (c ∷ cs) zero l e i p h = absurd (omega arith)
body_next k (c ∷ cs) (suc n) l e i p h =
    let m : suc n - 1 ≡ n = omega arith in
    let s : 1 + n ≡ suc n = omega arith in
    rw (e, i, m, body_drop k cs n (omega arith), map_map 1 n (body_len k (drop n cs)), s) refl

-- n characters before those counted
unfoldable pub further : ℕ → Option ℕ → Option ℕ
further n r = option_map (λ m. n + m) r

pub further_start : (r : Option ℕ) → further 0 r ≡ r
unfolding further
further_start r = sym (map_none r)

pub further_some : (n m : ℕ) → further n (Some m) ≡ Some (n + m)
unfolding further
further_some n m = refl

pub further_none : (n : ℕ) → further n None ≡ None
unfolding further
further_none n = refl

pub body_turn : (k : StringKind) (rest : List ℕ) (len n : ℕ) → 0 < length rest → closes k rest ≡ false → item_len k (get_or rest 0 0) (drop 1 rest) ≡ Some n → 0 < n → n ≤ length rest
    → further (len + n) (body_len k (drop n rest)) ≡ further len (body_len k rest)
unfolding further
body_turn k rest len n l e i p h =
    sym (map_map len n (body_len k (drop n rest))) ∙ ap (λ r. option_map (λ m. len + m) r) (sym (body_next k rest n l e i p h))

-- a character that ends nothing and takes no other one with it is an item
item-alone : (k : StringKind) (c : ℕ) (cs : List ℕ) → eqb c 92 ≡ false → (eqb c 10 && not k.triple) ≡ false → item_len k c cs ≡ Some 1
item-alone k c [] b t = rw (b, t) refl
item-alone k c (d ∷ ds) b t = rw (b, t) refl

or-first : (a b : Bool) → (a || b) ≡ false → a ≡ false
or-first true b h = h
or-first false b h = refl

or-second : (a b : Bool) → (a || b) ≡ false → b ≡ false
or-second true b h = absurd (cc)
or-second false b h = h

run-is : (k : StringKind) (n : ℕ) (cs : List ℕ) → n ≤ length cs → list_any (is_mark k) (take n cs) ≡ false → body_len k cs ≡ option_map (λ m. n + m) (body_len k (drop n cs))
run-is k zero [] l a = refl
run-is k zero (c ∷ cs) l a = map_none (body_len_past k (c ∷ cs) 0)
run-is k (suc n) [] l a = absurd (omega arith)
run-is k (suc n) (c ∷ cs) l a =
    let here : is_mark k c ≡ false = or-first (is_mark k c) (list_any (is_mark k) (take n cs)) a in
    let more : list_any (is_mark k) (take n cs) ≡ false = or-second (is_mark k c) (list_any (is_mark k) (take n cs)) a in
    let q : eqb c k.quote ≡ false = or-first (eqb c k.quote) (eqb c 92 || (eqb c 10 && not k.triple)) here in
    let others : (eqb c 92 || (eqb c 10 && not k.triple)) ≡ false = or-second (eqb c k.quote) (eqb c 92 || (eqb c 10 && not k.triple)) here in
    let b : eqb c 92 ≡ false = or-first (eqb c 92) (eqb c 10 && not k.triple) others in
    let t : (eqb c 10 && not k.triple) ≡ false = or-second (eqb c 92) (eqb c 10 && not k.triple) others in
    let w : n ≤ length cs = omega (arith, l) in
    let s : 1 + n ≡ suc n = omega arith in
    rw (q, item-alone k c cs b t, run-is k n cs w more, map_map 1 n (body_len k (drop n cs)), s) refl

-- a run of such characters
pub body_run : (k : StringKind) (cs run rest : List ℕ) → 16 ≤ length cs → run ≡ take 16 cs → rest ≡ drop 16 cs → list_any (is_mark k) run ≡ false
    → body_len k cs ≡ option_map (λ m. 16 + m) (body_len k rest)
body_run k cs run rest l r s a = rw s (run-is k 16 cs l (rw (sym r) a))

pub further_run : (len n : ℕ) (r s : Option ℕ) → r ≡ option_map (λ m. n + m) s → further (len + n) s ≡ further len r
unfolding further
further_run len n r s e = sym (map_map len n s) ∙ ap (λ x. option_map (λ m. len + m) x) (sym e)

pub body_stuck : (k : StringKind) (rest : List ℕ) → 0 < length rest → closes k rest ≡ false → item_len k (get_or rest 0 0) (drop 1 rest) ≡ None → body_len k rest ≡ None
body_stuck k [] l e i = refl
body_stuck k (c ∷ cs) l e i = rw (e, i) refl

pub body_closed : (k : StringKind) (rest : List ℕ) → closes k rest ≡ true → body_len k rest ≡ Some 0
body_closed k [] e = absurd (cc)
body_closed k (c ∷ cs) e = rw e refl

-- one piece more of a value
decoded_next : (k : StringKind) (rest : List ℕ) (v n : ℕ) → 0 < length rest → meaning k (get_or rest 0 0) (drop 1 rest) ≡ Stands v n → 0 < n → n ≤ length rest
    → decoded k rest ≡ behind (v ∷ []) n (decoded k (drop n rest))
decoded_next k [] v n l e p h = absurd (omega arith)
decoded_next k (c ∷ cs) v zero l e p h = absurd (omega arith)
decoded_next k (c ∷ cs) v (suc n) l e p h =
    let m : suc n - 1 ≡ n = omega arith in
    let s : 1 + n ≡ suc n = omega arith in
    rw (e, m, decoded_drop k cs n (omega arith), behind_behind (v ∷ []) [] 1 n (decoded k (drop n cs)), s) refl

pub decoded_turn : (k : StringKind) (rest vs : List ℕ) (at v n : ℕ) (total : Result (List ℕ) ℕ) → behind vs at (decoded k rest) ≡ total → 0 < length rest → meaning k (get_or rest 0 0) (drop 1 rest) ≡ Stands v n → 0 < n → n ≤ length rest
    → behind (vs ++ v ∷ []) (at + n) (decoded k (drop n rest)) ≡ total
decoded_turn k rest vs at v n total t l e p h =
    sym (behind_behind vs (v ∷ []) at n (decoded k (drop n rest))) ∙ ap (λ r. behind vs at r) (sym (decoded_next k rest v n l e p h)) ∙ t

joined_next : (k : StringKind) (rest : List ℕ) → 2 ≤ length rest → meaning k (get_or rest 0 0) (drop 1 rest) ≡ Joined
    → decoded k rest ≡ behind [] 2 (decoded k (drop 2 rest))
joined_next k [] l e = absurd (omega arith)
joined_next k (c ∷ cs) l e =
    rw (e, decoded_drop k cs 1 (omega arith), behind_behind [] [] 1 1 (decoded k (drop 1 cs))) refl

pub joined_turn : (k : StringKind) (rest vs : List ℕ) (at : ℕ) (total : Result (List ℕ) ℕ) → behind vs at (decoded k rest) ≡ total → 2 ≤ length rest → meaning k (get_or rest 0 0) (drop 1 rest) ≡ Joined
    → behind vs (at + 2) (decoded k (drop 2 rest)) ≡ total
joined_turn k rest vs at total t l e =
    ap (λ ws. behind ws (at + 2) (decoded k (drop 2 rest))) (sym (append-nil vs)) ∙ sym (behind_behind vs [] at 2 (decoded k (drop 2 rest))) ∙ ap (λ r. behind vs at r) (sym (joined_next k rest l e)) ∙ t

pub decoded_refused : (k : StringKind) (rest : List ℕ) → 0 < length rest → meaning k (get_or rest 0 0) (drop 1 rest) ≡ Refused → decoded k rest ≡ Err 0
decoded_refused k [] l e = absurd (omega arith)
decoded_refused k (c ∷ cs) l e = rw e refl

-- forms

pub formed_doubled : (rest : List ℕ) → begins_doubled rest ≡ true → is_formed false rest ≡ is_formed false (drop 2 rest)
unfolding begins_doubled
formed_doubled [] h = absurd (cc)
formed_doubled (c ∷ []) h = absurd (cc)
formed_doubled (c ∷ d ∷ ds) h = rw h refl

pub formed_text : (rest : List ℕ) → 0 < length rest → begins_doubled rest ≡ false → (get_or rest 0 0 ≡ 125 → ⊥) → is_formed false rest ≡ is_formed (eqb (get_or rest 0 0) 123) (drop 1 rest)
unfolding begins_doubled
formed_text [] l h t = absurd (omega arith)
formed_text (c ∷ []) l h t = single_char c (ne_eqb c 125 t)
formed_text (c ∷ d ∷ ds) l h t = rw (h, ne_eqb c 125 t) refl

pub formed_not : (rest : List ℕ) → 0 < length rest → begins_doubled rest ≡ false → get_or rest 0 0 ≡ 125 → is_formed false rest ≡ false
unfolding begins_doubled
formed_not [] l h t = absurd (omega arith)
formed_not (c ∷ []) l h t = rw t refl
formed_not (c ∷ d ∷ ds) l h t = rw (h, eq-eqb c 125 t) refl
