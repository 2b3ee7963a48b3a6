-- The index of rows by the node that they read.
use Rattle.std.proofs.Common.{◌≡◌, ℕ, ◌+◌, ◌≤◌, ◌<◌, zero, suc, Bool, true, false, cond, List, [], ◌∷◌, ◌++◌, Option, Some, None, refl, ap, ◌∙◌, sym, subst, inl, inr, ◌⊎◌, arith, length, get_or, eqb, replicate, ◌-◌, Contains}
use Rattle.std.proofs.Math.ListN.{set, length-set, length-replicate}
use Rattle.std.proofs.lemmas.List.{get_or-set_same, get_or-set_other, get_or_append_left, get_or_push, get_or-replicate, length_push}
use Rattle.std.proofs.lemmas.List.Elements.{Contains-append_left, Contains-push}
use Rattle.std.proofs.lemmas.Bool.{cases_eq, cases_lt}
use Rattle.std.proofs.lemmas.Bool.Decides.{nat_tests}
use Rattle.rows.specs.declared.inequalities.Row.{Row}
use Rattle.rows.specs.Reading.{node_read, row_at, is_node, reads_node, last_reader, noted, earlier, IsIndex}

pub reader_le : (rows : List Row) (n k : ℕ) → last_reader rows n k ≤ k
reader_le rows n zero = omega arith
reader_le rows n (suc k) = go (reader_le rows n k) (reads_node rows k n)
  where
    go : last_reader rows n k ≤ k → (b : Bool) → cond b (suc k) (last_reader rows n k) ≤ suc k
    go r true = omega arith
    go r false = omega arith

pub reader_reads : (rows : List Row) (n k i : ℕ) → last_reader rows n k ≡ suc i → reads_node rows i n ≡ true
reader_reads rows n zero i h = absurd (omega arith)
reader_reads rows n (suc k) i h = go (reader_reads rows n k i) (reads_node rows k n) refl h
  where
    go : (last_reader rows n k ≡ suc i → reads_node rows i n ≡ true) → (b : Bool) → reads_node rows k n ≡ b → cond b (suc k) (last_reader rows n k) ≡ suc i → reads_node rows i n ≡ true
    go more true e p = let q : k ≡ i = omega arith in subst (λ (z : ℕ). reads_node rows z n ≡ true) q e
    go more false e p = more p

-- no row between the last reader and the end reads the node
pub reader_last : (rows : List Row) (n k i : ℕ) → last_reader rows n k ≤ i → i < k → reads_node rows i n ≡ true → ⊥
reader_last rows n zero i h l r = absurd (omega arith)
reader_last rows n (suc k) i h l r = go (λ p q. reader_last rows n k i p q r) (reads_node rows k n) refl h (cases_eq i k)
  where
    go : (last_reader rows n k ≤ i → i < k → ⊥) → (b : Bool) → reads_node rows k n ≡ b → cond b (suc k) (last_reader rows n k) ≤ i → (i ≡ k) ⊎ (i ≡ k → ⊥) → ⊥
    go more true e p c = omega arith
    go more false e p (inl q) = let f : reads_node rows i n ≡ false = subst (λ (z : ℕ). reads_node rows z n ≡ false) (sym q) e in cc
    go more false e p (inr q) = more p (let ne : i ≡ k → ⊥ = q in omega arith)

reader_here : (rows : List Row) (n k : ℕ) → reads_node rows k n ≡ true → last_reader rows n (suc k) ≡ suc k
reader_here rows n k h = ap (λ b. cond b (suc k) (last_reader rows n k)) h

reader_same : (rows : List Row) (n k : ℕ) → reads_node rows k n ≡ false → last_reader rows n (suc k) ≡ last_reader rows n k
reader_same rows n k h = ap (λ b. cond b (suc k) (last_reader rows n k)) h

length-noted : (last : List ℕ) (reader : ℕ) (o : Option ℕ) → length (noted last reader o) ≡ length last
length-noted last reader None = refl
length-noted last reader (Some n) = length-set last n reader

is_itself : (n : ℕ) → eqb n n ≡ true
is_itself n = grind (arith, nat_tests)

is_other : (m n : ℕ) → (n ≡ m → ⊥) → eqb m n ≡ false
is_other m n h = grind (arith, nat_tests)

is_it : (m n : ℕ) → eqb m n ≡ true → m ≡ n
is_it m n h = grind (arith, nat_tests)

heads_more : (rows : List Row) (k : ℕ) (last : List ℕ) (o : Option ℕ) → node_read (row_at rows k) ≡ o → ((n : ℕ) → n < length last → get_or last n 0 ≡ last_reader rows n k) → (n : ℕ) → n < length last → get_or (noted last (suc k) o) n 0 ≡ last_reader rows n (suc k)
heads_more rows k last None e h n l = h n l ∙ sym (reader_same rows n k (ap (λ z. is_node z n) e))
heads_more rows k last (Some m) e h n l = elim (cases_eq n m) [
  | inl p ↦ (let P : ℕ → Type 0 = λ z. get_or (set last m (suc k)) z 0 ≡ last_reader rows z (suc k) in
      subst P (sym p) (get_or-set_same last m (suc k) 0 (omega arith) ∙ sym (reader_here rows m k (ap (λ z. is_node z m) e ∙ is_itself m))))
  | inr q ↦ get_or-set_other last m n (suc k) 0 q ∙ h n l ∙ sym (reader_same rows n k (ap (λ z. is_node z n) e ∙ is_other m n q))
]

link_here : (rows : List Row) (k : ℕ) (last : List ℕ) (o : Option ℕ) → node_read (row_at rows k) ≡ o → ((n : ℕ) → n < length last → get_or last n 0 ≡ last_reader rows n k) → (n : ℕ) → n < length last → reads_node rows k n ≡ true → earlier last o ≡ last_reader rows n k
link_here rows k last None e h n l r = absurd (let f : reads_node rows k n ≡ false = ap (λ z. is_node z n) e in cc)
link_here rows k last (Some m) e h n l r =
    let p : m ≡ n = is_it m n (sym (ap (λ z. is_node z n) e) ∙ r) in
    subst (λ (z : ℕ). get_or last z 0 ≡ last_reader rows n k) (sym p) (h n l)

-- one row more
pub index_more : (rows : List Row) (k j : ℕ) (last before : List ℕ) (o : Option ℕ) → j ≡ suc k → node_read (row_at rows k) ≡ o → IsIndex rows k last before → IsIndex rows j (noted last j o) (before ++ earlier last o ∷ [])
index_more rows k j last before o j_is e x =
    subst (λ (z : ℕ). IsIndex rows z (noted last z o) (before ++ earlier last o ∷ [])) (sym j_is) (record {
      counted = length_push before (earlier last o) ∙ (let c = x.counted in omega arith);
      heads = λ n l. heads_more rows k last o e x.heads n (subst (λ (z : ℕ). n < z) (length-noted last (suc k) o) l);
      links = λ i n l m r.
          let m' : n < length last = subst (λ (z : ℕ). n < z) (length-noted last (suc k) o) m in
          elim (cases_eq i k) [
            | inl p ↦ (let P : ℕ → Type 0 = λ z. reads_node rows z n ≡ true → get_or (before ++ earlier last o ∷ []) z 0 ≡ last_reader rows n z in
                subst P (sym p) (λ w. get_or_push before (earlier last o) 0 k x.counted ∙ link_here rows k last o e x.heads n m' w) r)
            | inr q ↦ get_or_append_left before (earlier last o ∷ []) 0 i (let c = x.counted in omega arith) ∙ x.links i n (omega arith) m' r
          ];
    })

-- no rows yet
pub index_none : (rows : List Row) (n : ℕ) → IsIndex rows 0 (replicate n 0) []
index_none rows n = record {
  counted = refl;
  heads = λ k l. get_or-replicate n k 0 0 (subst (λ (z : ℕ). k < z) (length-replicate n 0) l);
  links = λ i k l m r. absurd (omega arith);
}

-- the walk over the readers of a node, at one more than the next of them
pub record Walk (rows : List Row) (n at : ℕ) (old now : List ℕ) : Type 0 where
  pub small : at ≤ length rows
  pub reads : (i : ℕ) → at ≡ suc i → reads_node rows i n ≡ true
  pub pushed : (i : ℕ) → at ≤ i → i < length rows → reads_node rows i n ≡ true → Contains now i
  pub kept : (i : ℕ) → Contains old i → Contains now i

pub walk_start : (rows : List Row) (n at : ℕ) (last before old : List ℕ) → IsIndex rows (length rows) last before → n < length last → at ≡ get_or last n 0 → Walk rows n at old old
walk_start rows n at last before old x l e =
    let is : at ≡ last_reader rows n (length rows) = e ∙ x.heads n l in
    record {
      small = let r = reader_le rows n (length rows) in omega arith;
      reads = λ i p. reader_reads rows n (length rows) i (sym is ∙ p);
      pushed = λ i a b r. absurd (reader_last rows n (length rows) i (let w : at ≤ i = a in omega arith) b r);
      kept = λ i c. c;
    }

-- whatever the answer of a push, the id is in the list, and what was there stays
pub push_kept : (r : Bool) (old now : List ℕ) (id : ℕ) → (r ≡ true → now ≡ old ++ id ∷ []) → (r ≡ false → now ≡ old) → (i : ℕ) → Contains old i → Contains now i
push_kept true old now id a k i c = subst (λ (z : List ℕ). Contains z i) (sym (a refl)) (Contains-append_left old (id ∷ []) i c)
push_kept false old now id a k i c = subst (λ (z : List ℕ). Contains z i) (sym (k refl)) c

pub push_has : (r : Bool) (old now : List ℕ) (id : ℕ) → (r ≡ false → Contains old id) → (r ≡ true → now ≡ old ++ id ∷ []) → (r ≡ false → now ≡ old) → Contains now id
push_has true old now id f a k = subst (λ (z : List ℕ). Contains z id) (sym (a refl)) (Contains-push old id)
push_has false old now id f a k = subst (λ (z : List ℕ). Contains z id) (sym (k refl)) (f refl)

pub walk_more : (rows : List Row) (n at next : ℕ) (last before old now new : List ℕ) (r : Bool) → IsIndex rows (length rows) last before → n < length last → 0 < at → next ≡ get_or before (at - 1) 0
    → (r ≡ false → Contains now (at - 1)) → (r ≡ true → new ≡ now ++ (at - 1) ∷ []) → (r ≡ false → new ≡ now) → Walk rows n at old now → Walk rows n next old new
walk_more rows n at next last before old now new r x l p e f a k w =
    let row : ℕ = at - 1 in
    let at_is : at ≡ suc row = omega arith in
    let within : row < length rows = let s = w.small in omega arith in
    let is : next ≡ last_reader rows n row = e ∙ x.links row n within l (w.reads row at_is) in
    record {
      small = let s = reader_le rows n row in omega arith;
      reads = λ i q. reader_reads rows n row i (sym is ∙ q);
      pushed = λ i b c d. elim (cases_eq i row) [
        | inl q ↦ subst (λ (z : ℕ). Contains new z) (sym q) (push_has r now new row f a k)
        | inr q ↦ elim (cases_lt i row) [
          | inl m ↦ absurd (reader_last rows n row i (let v : next ≤ i = b in omega arith) m d)
          | inr m ↦ push_kept r now new row a k i (w.pushed i (let ne : i ≡ row → ⊥ = q in omega arith) c d)
        ]
      ];
      kept = λ i c. push_kept r now new row a k i (w.kept i c);
    }

pub walk_less : (rows : List Row) (n at next : ℕ) (last before old now : List ℕ) → IsIndex rows (length rows) last before → n < length last → 0 < at → next ≡ get_or before (at - 1) 0 → Walk rows n at old now → next < at
walk_less rows n at next last before old now x l p e w =
    let row : ℕ = at - 1 in
    let at_is : at ≡ suc row = omega arith in
    let within : row < length rows = let s = w.small in omega arith in
    let is : next ≡ last_reader rows n row = e ∙ x.links row n within l (w.reads row at_is) in
    let s = reader_le rows n row in omega arith
