-- The end of a string's body is the first one that the Reference's grammar allows.
use Rattle.std.proofs.Common.{◌≡◌, ℕ, zero, suc, ◌+◌, ◌≤◌, Bool, true, false, not, cond, eqb, ◌&&◌, List, [], ◌∷◌, ◌++◌, length, take, drop, Option, Some, None, refl, sym, ap, subst, ◌∙◌, inl, inr, length-append, length-take, arith}
use Rattle.std.proofs.Math.Seq.{take-append_seam, drop-append_seam}
use Rattle.std.proofs.lemmas.List.{take-append-drop}
use Rattle.std.proofs.lemmas.Bool.{cases_Bool, eqb-true, eqb-false, ne_eqb, false≢true}
use Rattle.std.specs.Option.{option_map}
use Rattle.py_literals.specs.declared.text.StringKind.{StringKind}
use Rattle.py_literals.specs.Text.{closes, item_len, body_len, IsBody, over, char, escaped, IsEnd, EndsFirst}
use Rattle.py_literals.proofs.Turns.{body_next, body_stuck, body_closed}

-- what the first character of a body begins
data Item (k : StringKind) (c : ℕ) (cs : List ℕ) : Type 0 where
  stuck : item_len k c cs ≡ None → Item k c cs
  one : item_len k c cs ≡ Some 1 → (c ≡ 92 → ⊥) → (c ≡ 10 → k.triple ≡ true) → Item k c cs
  two : (d : ℕ) (ds : List ℕ) → item_len k c cs ≡ Some 2 → c ≡ 92 → cs ≡ d ∷ ds → Item k c cs

plain_len : (k : StringKind) (c : ℕ) (cs : List ℕ) → eqb c 92 ≡ false → item_len k c cs ≡ cond (eqb c 10 && not k.triple) None (Some 1)
plain_len k c [] t = rw t refl
plain_len k c (d ∷ ds) t = rw t refl

not_false : (b : Bool) → not b ≡ false → b ≡ true
not_false true h = refl
not_false false h = absurd (cc)

line_end_triple : (c : ℕ) (t : Bool) → (eqb c 10 && not t) ≡ false → c ≡ 10 → t ≡ true
line_end_triple c t h e =
    let u : not t ≡ false = rw e at h in
    not_false t u

backslash : (k : StringKind) (c : ℕ) (cs : List ℕ) → c ≡ 92 → Item k c cs
backslash k c [] e = stuck (rw e refl)
backslash k c (d ∷ ds) e = two d ds (rw e refl) e refl

item : (k : StringKind) (c : ℕ) (cs : List ℕ) → Item k c cs
item k c cs =
    elim (cases_Bool (eqb c 92)) [
      | inl t ↦ backslash k c cs (eqb-true c 92 t)
      | inr t ↦
          let e = plain_len k c cs t in
          elim (cases_Bool (eqb c 10 && not k.triple)) [
            | inl u ↦ stuck (rw u at e)
            | inr u ↦ one (rw u at e) (eqb-false c 92 t) (line_end_triple c k.triple u)
          ]
    ]

-- one more item before what is read behind it
map_some : (n m : ℕ) (r : Option ℕ) → r ≡ Some m → option_map (λ j. n + j) r ≡ Some (n + m)
map_some n m r e = rw e refl

step_one : (k : StringKind) (c : ℕ) (cs : List ℕ) → closes k (c ∷ cs) ≡ false → item_len k c cs ≡ Some 1 → body_len k (c ∷ cs) ≡ option_map (λ m. 1 + m) (body_len k cs)
step_one k c cs f i = body_next k (c ∷ cs) 1 (omega arith) f i (omega arith) (omega arith)

step_two : (k : StringKind) (c d : ℕ) (ds : List ℕ) → closes k (c ∷ d ∷ ds) ≡ false → item_len k c (d ∷ ds) ≡ Some 2 → body_len k (c ∷ d ∷ ds) ≡ option_map (λ m. 2 + m) (body_len k ds)
step_two k c d ds f i = body_next k (c ∷ d ∷ ds) 2 (omega arith) f i (omega arith) (omega arith)

record Found (k : StringKind) (cs : List ℕ) (bound : ℕ) : Type 0 where
  pub len : ℕ
  pub is : body_len k cs ≡ Some len
  pub short : len ≤ bound

found_closed : (k : StringKind) (cs : List ℕ) (bound : ℕ) → closes k cs ≡ true → Found k cs bound
found_closed k cs bound t = record { len = 0; is = body_closed k cs t; short = omega arith }

and_false : (b : Bool) → (b && false) ≡ false
and_false true = refl
and_false false = refl

stuck_line : (c : ℕ) (t : Bool) → (c ≡ 10 → t ≡ true) → (eqb c 10 && not t) ≡ false
stuck_line c true l = and_false (eqb c 10)
stuck_line c false l = elim (cases_Bool (eqb c 10)) [ inl u ↦ absurd (false≢true (l (eqb-true c 10 u))) | inr u ↦ rw u refl ]

one_item : (k : StringKind) (c : ℕ) (cs : List ℕ) → (c ≡ 92 → ⊥) → (c ≡ 10 → k.triple ≡ true) → item_len k c cs ≡ Some 1
one_item k c cs n l =
    let e = stuck_line c k.triple l in
    plain_len k c cs (ne_eqb c 92 n) ∙ rw e refl

-- behind items, closing quotes end the body there or before
found : (k : StringKind) {x : List ℕ} (y : List ℕ) → IsBody k x → closes k y ≡ true → Found k (x ++ y) (length x)
found k y over t = found_closed k y 0 t
found k y (char {c = c} {cs = cs} n l h) t =
    elim (cases_Bool (closes k (c ∷ (cs ++ y)))) [
      | inl u ↦ found_closed k (c ∷ (cs ++ y)) (suc (length cs)) u
      | inr u ↦
          let f = found k y h t in
          record {
            len = 1 + f.len;
            is = step_one k c (cs ++ y) u (one_item k c (cs ++ y) n l) ∙ map_some 1 f.len (body_len k (cs ++ y)) f.is;
            short = omega (arith, f.short);
          }
    ]
found k y (escaped {c = c} {cs = cs} h) t =
    elim (cases_Bool (closes k (92 ∷ c ∷ (cs ++ y)))) [
      | inl u ↦ found_closed k (92 ∷ c ∷ (cs ++ y)) (suc (suc (length cs))) u
      | inr u ↦
          let f = found k y h t in
          record {
            len = 2 + f.len;
            is = step_two k 92 c (cs ++ y) u refl ∙ map_some 2 f.len (body_len k (cs ++ y)) f.is;
            short = omega (arith, f.short);
          }
    ]

-- the body that ends behind n characters
record Ended (k : StringKind) (cs : List ℕ) (n : ℕ) : Type 0 where
  pub body : List ℕ
  pub rest : List ℕ
  pub parts : cs ≡ body ++ rest
  pub len : length body ≡ n
  pub items : IsBody k body
  pub closed : closes k rest ≡ true

record Before (r : Option ℕ) (a n : ℕ) : Type 0 where
  pub len : ℕ
  pub is : r ≡ Some len
  pub sum : n ≡ a + len

before : (a n : ℕ) (r : Option ℕ) → option_map (λ m. a + m) r ≡ Some n → Before r a n
before a n None e = absurd (cc)
before a n (Some m) e = record { len = m; is = refl; sum = cc }

ended : (k : StringKind) (fuel : ℕ) (cs : List ℕ) (n : ℕ) → length cs ≤ fuel → body_len k cs ≡ Some n → Ended k cs n
ended k fuel [] n h e = absurd (cc)
ended k zero (c ∷ cs) n h e = absurd (omega arith)
ended k (suc fuel) (c ∷ cs) n h e =
    elim (cases_Bool (closes k (c ∷ cs))) [
      | inl t ↦
          let z : n ≡ 0 = cc (body_closed k (c ∷ cs) t, e) in
          record { body = []; rest = c ∷ cs; parts = refl; len = sym z; items = over; closed = t }
      | inr t ↦ elim (item k c cs) [
        | stuck i ↦
            let no = body_stuck k (c ∷ cs) (omega arith) t i in
            absurd (cc)
        | one i m l ↦
            let b = before 1 n (body_len k cs) (sym (step_one k c cs t i) ∙ e) in
            let f = ended k fuel cs b.len (omega arith) b.is in
            record { body = c ∷ f.body; rest = f.rest; parts = ap (λ ds. c ∷ ds) f.parts; len = omega (arith, f.len, b.sum); items = char m l f.items; closed = f.closed }
        | two d ds i m s ↦
            let long : length cs ≡ suc (length ds) = ap length s in
            let u : closes k (c ∷ d ∷ ds) ≡ false = ap (λ r. closes k (c ∷ r)) (sym s) ∙ t in
            let j : item_len k c (d ∷ ds) ≡ Some 2 = ap (λ r. item_len k c r) (sym s) ∙ i in
            let b = before 2 n (body_len k ds) (sym (step_two k c d ds u j) ∙ ap (λ r. body_len k (c ∷ r)) (sym s) ∙ e) in
            let f = ended k fuel ds b.len (omega arith) b.is in
            record {
              body = c ∷ d ∷ f.body;
              rest = f.rest;
              parts = ap (λ r. c ∷ r) s ∙ ap (λ r. c ∷ d ∷ r) f.parts;
              len = omega (arith, f.len, b.sum);
              items = subst (λ (x : ℕ). IsBody k (x ∷ d ∷ f.body)) (sym m) (escaped f.items);
              closed = f.closed;
            }
      ]
    ]

is_end : (k : StringKind) (cs : List ℕ) (n : ℕ) → body_len k cs ≡ Some n → IsEnd k cs n
is_end k cs n e =
    let f = ended k (length cs) cs n (omega arith) e in
    let t : take n cs ≡ f.body = ap (λ m. take m cs) (sym f.len) ∙ ap (λ ds. take (length f.body) ds) f.parts ∙ take-append_seam f.body f.rest in
    let d : drop n cs ≡ f.rest = ap (λ m. drop m cs) (sym f.len) ∙ ap (λ ds. drop (length f.body) ds) f.parts ∙ drop-append_seam f.body f.rest in
    record {
      within = omega (arith, ap length f.parts, length-append f.body f.rest, f.len);
      items = subst (IsBody k) (sym t) f.items;
      closed = ap (λ r. closes k r) d ∙ f.closed;
    }

end_found : (k : StringKind) (cs : List ℕ) (m : ℕ) → IsEnd k cs m → Found k cs m
end_found k cs m h =
    let f = found k (drop m cs) h.items h.closed in
    let e = take-append-drop m cs in
    let l = length-take m cs in
    record { len = f.len; is = ap (λ r. body_len k r) (sym e) ∙ f.is; short = omega (arith, f.short, l, h.within) }

pub first_end : (k : StringKind) (cs : List ℕ) → EndsFirst k cs
first_end k cs = record {
  some = is_end k cs;
  first = λ n m e h.
      let f = end_found k cs m h in
      let same : n ≡ f.len = cc (e, f.is) in
      omega (arith, same, f.short);
  none = λ e m h. let f = end_found k cs m h in cc (e, f.is);
}
