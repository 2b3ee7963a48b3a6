-- What a push, a removal and more room do to the list that the links spell.
use Rattle.std.proofs.Common.{◌≡◌, ◌≢◌, ◌⊎◌, ℕ, ◌+◌, ◌<◌, ◌≤◌, suc, List, [], ◌∷◌, ◌++◌, length, slice_index, get_or, refl, sym, ◌∙◌, ap, subst, arith, inl, inr, eqb}
use Rattle.std.specs.Prelude.{All, Contains}
use Rattle.std.proofs.lemmas.Bool.{cases_eq, cases_lt}
use Rattle.std.proofs.lemmas.Bool.Decides.{nat_tests}
use Rattle.std.proofs.lemmas.List.Elements.{All-head, All-tail, All-cons, All-nil, All-contains}
use Rattle.std.proofs.lemmas.List.{length_push, get_or_push, get_or_append_left}
use Rattle.std.proofs.lemmas.List.Quantifiers.{all_pairs_push}
use Rattle.std.proofs.lemmas.List.Kept.{AllPairs-filter}
use Rattle.std.proofs.lemmas.List.Folds.{Any-from_list_any}
use Rattle.std.proofs.lemmas.Map.Keys.{IsDistinct-from_apart}
use Rattle.std.proofs.lemmas.Map.Steps.{length-le_from_distinct_below}
use Rattle.ready_list.specs.Ring.{Lacks, HasNoRepeats, IsUndoneBy, IsRing, relinked, IsGrown}
use Rattle.ready_list.specs.Listed.{without}
use Rattle.ready_list.proofs.Relinked.{length-relinked, relinked-last, relinked-other, unlinked-undone, linked-undone}
use Rattle.ready_list.proofs.Leads.{apart-head, apart-tail, leads-within, leads-on, leads-same, leads-dropped, leads-pushed, without-same, without-other, without-absent}

-- an id that is alone is in no list
pub absent_from_alone : (next previous ids : List ℕ) (x : ℕ) → IsRing next previous ids → slice_index next (x + 1) ≡ x + 1
    → Lacks ids x
absent_from_alone next previous ids x r e =
    λ k d m q. leads-on next 0 ids r.apart r.leads k d m
    (ap (λ (j : ℕ). slice_index next (j + 1)) q ∙ e ∙ ap (λ (j : ℕ). j + 1) (sym q))

-- an id that is in the list isn't alone
pub linked_from_contains : (next previous ids : List ℕ) (x : ℕ) → IsRing next previous ids → Contains ids x
    → slice_index next (x + 1) ≢ x + 1
linked_from_contains next previous ids x r (k, m, q) e = absent_from_alone next previous ids x r e k x m q

-- whether a list contains a number
pub contains_or_lacks : (xs : List ℕ) (x : ℕ) → Contains xs x ⊎ Lacks xs x
contains_or_lacks [] x = inr (All-nil (λ k. k ≢ x))
contains_or_lacks (y ∷ xs) x =
    elim (cases_eq y x) [
      | inl e ↦ inl (0, omega arith, e)
      | inr ne ↦ elim (contains_or_lacks xs x) [
        | inl c ↦ inl (suc c.0, omega (arith, c.1), c.2)
        | inr l ↦ inr (All-cons (λ k. k ≢ x) y xs ne l)
      ]
    ]

pub contains_from_linked : (next previous ids : List ℕ) (x : ℕ) → IsRing next previous ids → x + 1 < length next
    → slice_index next (x + 1) ≢ x + 1 → Contains ids x
contains_from_linked next previous ids x r h ne =
    elim (contains_or_lacks ids x) [
      | inl c ↦ c
      | inr l ↦ absurd (ne (r.alone x h l))
    ]

pub ids-within : (next previous ids : List ℕ) → IsRing next previous ids → All (λ id. id + 1 < length next) ids
ids-within next previous ids r = leads-within next previous r.back 0 ids r.head r.leads

-- distinct numbers below n are at most n
pub length-le_from_apart : (ids : List ℕ) (n : ℕ) → HasNoRepeats ids → All (λ id. id < n) ids → length ids ≤ n
length-le_from_apart ids n apart below =
    length-le_from_distinct_below ids n
    (IsDistinct-from_apart eqb ids (λ i j d l h. let ne = apart i j d l h in grind (arith, nat_tests)))
    (λ q t.
    let any = Any-from_list_any (eqb q) ids t in
    let at : get_or ids any.0 any.1 ≡ any.1 = any.3 in
    let same : q ≡ any.1 = grind (arith, nat_tests, any.4) in
    rw (same, sym at) (below any.0 any.1 any.2))

lacks-from_without : (x k : ℕ) (ids : List ℕ) → k ≢ x → Lacks (without x ids) k → Lacks ids k
lacks-from_without x k [] ne l = All-nil (λ y. y ≢ k)
lacks-from_without x k (id ∷ ids) ne l =
    elim (cases_eq id x) [
      | inl e ↦
          All-cons (λ y. y ≢ k) id ids (λ q. ne (sym q ∙ e))
          (lacks-from_without x k ids ne (subst (λ (ys : List ℕ). Lacks ys k) (without-same x id ids e) l))
      | inr other ↦
          let both = subst (λ (ys : List ℕ). Lacks ys k) (without-other x id ids other) l in
          All-cons (λ y. y ≢ k) id ids (All-head (λ y. y ≢ k) id (without x ids) both)
          (lacks-from_without x k ids ne (All-tail (λ y. y ≢ k) id (without x ids) both))
    ]

lacks-from_push : (x k : ℕ) (ids : List ℕ) → Lacks (ids ++ x ∷ []) k → Lacks ids k × (x ≢ k)
lacks-from_push x k [] l = (All-nil (λ y. y ≢ k), All-head (λ y. y ≢ k) x [] l)
lacks-from_push x k (id ∷ ids) l =
    let rest = lacks-from_push x k ids (All-tail (λ y. y ≢ k) id (ids ++ x ∷ []) l) in
    (All-cons (λ y. y ≢ k) id ids (All-head (λ y. y ≢ k) id (ids ++ x ∷ []) l) rest.0, rest.1)

-- x, which is in the list, taken out
pub ring-dropped : (next previous ids : List ℕ) (x : ℕ) → IsRing next previous ids → x + 1 < length next → Contains ids x
    → IsRing (relinked next (slice_index previous (x + 1)) (slice_index next (x + 1)) (x + 1) (x + 1))
    (relinked previous (slice_index next (x + 1)) (slice_index previous (x + 1)) (x + 1) (x + 1)) (without x ids)
ring-dropped next previous ids x r h c =
    let p = slice_index previous (x + 1) in
    let n = slice_index next (x + 1) in
    let hb : x + 1 < length previous = rw r.back.lengths h in
    let p_in : p < length next = rw (sym r.back.lengths) (r.forth.within (x + 1) hb) in
    let n_in : n < length next = r.back.within (x + 1) h in
    let p_leads : slice_index next p ≡ x + 1 = r.forth.returns (x + 1) hb in
    let n_leads : slice_index previous n ≡ x + 1 = r.back.returns (x + 1) h in
    let n_not : n ≢ x + 1 = linked_from_contains next previous ids x r c in
    let p_not : p ≢ x + 1 = λ e. n_not (ap (λ (k : ℕ). slice_index next k) (sym e) ∙ p_leads) in
    record {
      leads = leads-dropped next previous p x r.back p_in h p_leads 0 ids r.head (λ e. absurd (omega (arith, e)))
          (λ k d m e. absurd (omega (arith, e))) r.apart r.leads;
      apart = AllPairs-filter (λ a b. a ≢ b) _ ids r.apart;
      alone = λ k m l.
          let m' : k + 1 < length next = subst (λ (j : ℕ). k + 1 < j) (length-relinked next p n (x + 1) (x + 1)) m in
          elim (cases_eq k x) [
            | inl e ↦
                ap (λ (j : ℕ). slice_index (relinked next p n (x + 1) (x + 1)) (j + 1)) e
                ∙ relinked-last next p n (x + 1) (x + 1) h ∙ ap (λ (j : ℕ). j + 1) (sym e)
            | inr ne ↦
                let was : slice_index next (k + 1) ≡ k + 1 = r.alone k m' (lacks-from_without x k ids ne l) in
                relinked-other next p n (x + 1) (x + 1) (k + 1)
                (λ e. ne (omega (arith, sym was ∙ ap (λ (j : ℕ). slice_index next j) e ∙ p_leads)))
                (λ e. ne (omega (arith, e)))
                ∙ was
          ];
      back = unlinked-undone previous next p n (x + 1) r.back p_in h n_in p_leads refl p_not n_not;
      forth = unlinked-undone next previous n p (x + 1) r.forth (rw r.back.lengths n_in) hb (rw r.back.lengths p_in) n_leads refl n_not p_not;
      head = rw length-relinked r.head;
    }

-- taking out an id that is in the list makes it one shorter
pub length-without : (x : ℕ) (ids : List ℕ) → HasNoRepeats ids → Contains ids x → length (without x ids) + 1 ≡ length ids
length-without x [] apart c = absurd (omega (arith, c.1))
length-without x (id ∷ ids) apart c =
    elim (cases_eq id x) [
      | inl e ↦
          let absent : All (λ w. w ≢ x) ids = λ k d m q. apart-head id ids apart k d m (e ∙ sym q) in
          let to : without x (id ∷ ids) ≡ ids = without-same x id ids e ∙ without-absent x ids absent in
          omega (arith, ap (λ (ks : List ℕ). length ks) to)
      | inr ne ↦
          let rest : Contains ids x = elim (contains_or_lacks ids x) [
            | inl d ↦ d
            | inr l ↦ absurd (All-contains (λ w. w ≢ x) (id ∷ ids) x (All-cons (λ w. w ≢ x) id ids ne l) c refl)
          ] in
          omega (arith, ap (λ (ks : List ℕ). length ks) (without-other x id ids ne), length-without x ids (apart-tail id ids apart) rest)
    ]

-- x, which was alone, put in behind the last
pub ring-pushed : (next previous ids : List ℕ) (x : ℕ) → IsRing next previous ids → x + 1 < length next
    → slice_index next (x + 1) ≡ x + 1
    → IsRing (relinked next (slice_index previous 0) (x + 1) (x + 1) 0)
    (relinked previous 0 (x + 1) (x + 1) (slice_index previous 0)) (ids ++ x ∷ [])
ring-pushed next previous ids x r h was =
    let p = slice_index previous 0 in
    let head_back : 0 < length previous = rw r.back.lengths r.head in
    let hb : x + 1 < length previous = rw r.back.lengths h in
    let p_in : p < length next = rw (sym r.back.lengths) (r.forth.within 0 head_back) in
    let p_leads : slice_index next p ≡ 0 = r.forth.returns 0 head_back in
    let alone_back : slice_index previous (x + 1) ≡ x + 1 =
    ap (λ (j : ℕ). slice_index previous j) (sym was) ∙ r.back.returns (x + 1) h in
    let p_not : p ≢ x + 1 = λ e. absurd (omega (arith, sym p_leads ∙ ap (λ (j : ℕ). slice_index next j) e ∙ was)) in
    let head_not : 0 ≢ x + 1 = λ e. absurd (omega (arith, e)) in
    let absent : Lacks ids x = absent_from_alone next previous ids x r was in
    record {
      leads = leads-pushed next previous p x r.back p_in h p_leads p_not 0 ids r.head head_not absent r.leads;
      apart = all_pairs_push (λ a b. a ≢ b) ids x r.apart absent;
      alone = λ k m l.
          let m' : k + 1 < length next = subst (λ (j : ℕ). k + 1 < j) (length-relinked next p (x + 1) (x + 1) 0) m in
          let both = lacks-from_push x k ids l in
          let same : slice_index next (k + 1) ≡ k + 1 = r.alone k m' both.0 in
          relinked-other next p (x + 1) (x + 1) 0 (k + 1)
          (λ e. absurd (omega (arith, sym same ∙ ap (λ (j : ℕ). slice_index next j) e ∙ p_leads)))
          (λ e. both.1 (omega (arith, e)))
          ∙ same;
      back = linked-undone previous next p 0 (x + 1) r.back p_in h r.head p_leads was p_not head_not;
      forth = linked-undone next previous 0 p (x + 1) r.forth head_back hb (rw r.back.lengths p_in) refl alone_back head_not p_not;
      head = rw length-relinked r.head;
    }

-- more places, each alone
grown-undone : (back links back' links' : List ℕ) (n : ℕ) → IsUndoneBy back links → length links ≤ n
    → IsGrown links links' n → IsGrown back back' n → IsUndoneBy back' links'
grown-undone back links back' links' n u more g b = record {
  lengths = b.length_is ∙ sym g.length_is;
  within = λ k h. elim (cases_lt k (length links)) [
    | inl old ↦ let w = u.within k old in omega (arith, g.kept k old, w, g.length_is)
    | inr new ↦ omega (arith, g.added k new (omega (arith, h, g.length_is)), h)
  ];
  returns = λ k h. elim (cases_lt k (length links)) [
    | inl old ↦
        ap (λ (j : ℕ). slice_index back' j) (g.kept k old)
        ∙ b.kept (slice_index links k) (rw u.lengths (u.within k old)) ∙ u.returns k old
    | inr new ↦
        let below : k < n = omega (arith, h, g.length_is) in
        ap (λ (j : ℕ). slice_index back' j) (g.added k new below) ∙ b.added k (rw u.lengths new) below
  ];
}

pub ring-grown : (next previous next' previous' ids : List ℕ) (n : ℕ) → IsRing next previous ids → length next ≤ n
    → IsGrown next next' n → IsGrown previous previous' n → IsRing next' previous' ids
ring-grown next previous next' previous' ids n r more g b =
    let in_old = ids-within next previous ids r in
    record {
      leads = leads-same next next' 0 0 ids (g.kept 0 r.head)
          (λ k d m. g.kept (get_or ids k d + 1) (in_old k d m)) r.leads;
      apart = r.apart;
      alone = λ k m l. elim (cases_lt (k + 1) (length next)) [
        | inl old ↦ g.kept (k + 1) old ∙ r.alone k old l
        | inr new ↦ g.added (k + 1) new (omega (arith, m, g.length_is))
      ];
      back = grown-undone previous next previous' next' n r.back more g b;
      forth = grown-undone next previous next' previous' n r.forth (rw r.back.lengths more) b g;
      head = omega (arith, g.length_is, r.head);
    }

new-undone : (back links : List ℕ) (n : ℕ) → IsGrown [] links n → IsGrown [] back n → IsUndoneBy back links
new-undone back links n g b =
    let to : (k : ℕ) → k < length links → k < n = λ k h. omega (arith, h, g.length_is) in
    record {
      lengths = b.length_is ∙ sym g.length_is;
      within = λ k h. omega (arith, g.added k (omega arith) (to k h), h);
      returns = λ k h. ap (λ (j : ℕ). slice_index back j) (g.added k (omega arith) (to k h)) ∙ b.added k (omega arith) (to k h);
    }

-- places that are all alone spell no list
pub ring-new : (next previous : List ℕ) (n : ℕ) → 0 < n → IsGrown [] next n → IsGrown [] previous n → IsRing next previous []
ring-new next previous n h g b = record {
  leads = g.added 0 (omega arith) h;
  apart = λ i j d l m. absurd (omega (arith, m));
  alone = λ k m l. g.added (k + 1) (omega arith) (omega (arith, m, g.length_is));
  back = new-undone previous next n g b;
  forth = new-undone next previous n b g;
  head = omega (arith, g.length_is, h);
}

-- as many places as there were
pub grown-none : (links : List ℕ) (n : ℕ) → length links ≡ n → IsGrown links links n
grown-none links n e = record {
  length_is = e;
  kept = λ k h. refl;
  added = λ k h m. absurd (omega (arith, h, m, e));
}

-- one more place, alone
pub grown-more : (old links links' : List ℕ) (n : ℕ) → length old ≤ n → IsGrown old links n → links' ≡ links ++ n ∷ []
    → IsGrown old links' (n + 1)
grown-more old links links' n more g e =
    let P : List ℕ → Type 0 = λ xs. IsGrown old xs (n + 1) in
    subst P (sym e) (record {
      length_is = length_push links n ∙ ap (λ (k : ℕ). k + 1) g.length_is;
      kept = λ k h. get_or_append_left links (n ∷ []) 0 k (omega (arith, h, g.length_is)) ∙ g.kept k h;
      added = λ k h m. elim (cases_lt k n) [
        | inl below ↦ get_or_append_left links (n ∷ []) 0 k (omega (arith, below, g.length_is)) ∙ g.added k h below
        | inr last ↦ get_or_push links n 0 k (omega (arith, last, m, g.length_is)) ∙ omega (arith, last, m)
      ];
    })
