-- The same of a list's fields: the links, and how many ids they spell.
use Rattle.std.proofs.Common.{◌≡◌, ◌≢◌, ℕ, ◌+◌, ◌-◌, ◌<◌, ◌≤◌, ◌^◌, suc, zero, List, [], ◌∷◌, ◌++◌, length, slice_index, refl, sym, ◌∙◌, ap, subst, arith, inl, inr, eqb, not, IsTrue, ◌↔◌, Bool, false}
use Rattle.std.specs.Prelude.{Contains}
use Rattle.std.proofs.lemmas.List.{length_push}
use Rattle.std.proofs.lemmas.List.Elements.{All-contains}
use Rattle.std.proofs.lemmas.Bool.{false≢true}
use Rattle.std.proofs.lemmas.Bool.Decides.{nat_tests}
use Rattle.ready_list.specs.Listed.{IsWellFormed, without}
use Rattle.ready_list.specs.Ring.{following, Lacks, IsRing, relinked, IsGrown, listed_by, IsList}
use Rattle.ready_list.proofs.Relinked.{length-relinked}
use Rattle.ready_list.proofs.Leads.{following-leads, apart-head, without-same, without-absent}
use Rattle.ready_list.proofs.Rings.{contains_or_lacks, linked_from_contains, contains_from_linked, ids-within, length-le_from_apart, ring-dropped, length-without, ring-pushed, ring-grown, ring-new}

pub length-following : (next : List ℕ) (n place : ℕ) → length (following next n place) ≡ n
length-following next zero place = refl
length-following next (suc n) place = ap suc (length-following next n (slice_index next place))

pub list-well_formed : (next previous : List ℕ) (len : ℕ) → IsList next previous len → IsWellFormed (listed_by next len)
list-well_formed next previous len l =
    let in_next = ids-within next previous (following next len 0) l.ring in
    record {
      distinct = l.ring.apart;
      within = λ k d h. omega (arith, in_next k d h);
      fits = omega (arith, l.fits, l.ring.head);
    }

not_eqb-apart : (a b : ℕ) → IsTrue (not (eqb a b)) → a ≢ b
not_eqb-apart a b t e = grind (arith, nat_tests)

not_eqb-true : (a b : ℕ) → a ≢ b → IsTrue (not (eqb a b))
not_eqb-true a b ne = grind (arith, nat_tests)

-- a list is no longer than its room
pub list-len : (next previous : List ℕ) (len : ℕ) → IsList next previous len → len + 1 ≤ length next
list-len next previous len l =
    let f = list-well_formed next previous len l in
    omega (arith, length-le_from_apart (following next len 0) (length next - 1) f.distinct f.within, length-following next len 0, l.ring.head)

-- a ring of these ids makes a list, whose length is theirs
list-of_ring : (next previous ids : List ℕ) (len : ℕ) → IsRing next previous ids → length ids ≡ len → length next ≤ 2 ^ 32
    → IsList next previous len × (following next len 0 ≡ ids)
list-of_ring next previous ids len r e h =
    let same : following next len 0 ≡ ids = ap (λ (k : ℕ). following next k 0) (sym e) ∙ following-leads next 0 ids r.leads in
    (record { ring = subst (λ (xs : List ℕ). IsRing next previous xs) (sym same) r; fits = h }, same)

pub list-pushed : (next previous next' previous' : List ℕ) (len x : ℕ) → IsList next previous len → x + 1 < length next
    → Lacks (following next len 0) x
    → next' ≡ relinked next (slice_index previous 0) (x + 1) (x + 1) 0
    → previous' ≡ relinked previous 0 (x + 1) (x + 1) (slice_index previous 0)
    → IsList next' previous' (len + 1) × (following next' (len + 1) 0 ≡ following next len 0 ++ x ∷ [])
list-pushed next previous next' previous' len x l h absent en ep =
    list-of_ring next' previous' (following next len 0 ++ x ∷ []) (len + 1)
    (rw (en, ep) (ring-pushed next previous (following next len 0) x l.ring h (l.ring.alone x h absent)))
    (length_push (following next len 0) x ∙ ap (λ (k : ℕ). k + 1) (length-following next len 0))
    (rw (en, length-relinked) l.fits)

-- with an id that it lacks and has room for, the list is longer
pub list-len_more : (next previous : List ℕ) (len x : ℕ) → IsList next previous len → x + 1 < length next
    → Lacks (following next len 0) x → len + 2 ≤ length next
list-len_more next previous len x l h absent =
    let next' = relinked next (slice_index previous 0) (x + 1) (x + 1) 0 in
    let previous' = relinked previous 0 (x + 1) (x + 1) (slice_index previous 0) in
    let more = list-len next' previous' (len + 1) (list-pushed next previous next' previous' len x l h absent refl refl).0 in
    omega (arith, more, length-relinked next (slice_index previous 0) (x + 1) (x + 1) 0)

pub list-dropped : (next previous next' previous' : List ℕ) (len x place : ℕ) → IsList next previous len
    → Contains (following next len 0) x → place ≡ x + 1
    → next' ≡ relinked next (slice_index previous place) (slice_index next place) place place
    → previous' ≡ relinked previous (slice_index next place) (slice_index previous place) place place
    → IsList next' previous' (len - 1) × (following next' (len - 1) 0 ≡ without x (following next len 0))
list-dropped next previous next' previous' len x place l c e en ep =
    let ids = following next len 0 in
    let h : x + 1 < length next = All-contains (λ id. id + 1 < length next) ids x (ids-within next previous ids l.ring) c in
    let at = λ (p : ℕ). relinked next (slice_index previous p) (slice_index next p) p p in
    let back_at = λ (p : ℕ). relinked previous (slice_index next p) (slice_index previous p) p p in
    let n' : next' ≡ at (x + 1) = en ∙ ap at e in
    let p' : previous' ≡ back_at (x + 1) = ep ∙ ap back_at e in
    list-of_ring next' previous' (without x ids) (len - 1)
    (rw (n', p') (ring-dropped next previous ids x l.ring h c))
    (omega (arith, length-without x ids l.ring.apart c, length-following next len 0))
    (rw (n', length-relinked) l.fits)

-- the head leads to the first id
pub list-first : (next previous : List ℕ) (len : ℕ) → IsList next previous len → slice_index next 0 ≢ 0
    → Contains (following next len 0) (slice_index next 0 - 1)
    × (following next len 0 ≡ (slice_index next 0 - 1) ∷ without (slice_index next 0 - 1) (following next len 0))
list-first next previous zero l ne = absurd (ne l.ring.leads)
list-first next previous (suc n) l ne =
    let x = slice_index next 0 - 1 in
    let rest = following next n (slice_index next 0) in
    let absent : Lacks rest x = λ k d h q. apart-head x rest l.ring.apart k d h (sym q) in (
      (0, omega arith, refl),
      ap (λ (xs : List ℕ). x ∷ xs) (sym (without-same x x rest refl ∙ without-absent x rest absent)),
    )

pub list-empty : (next previous : List ℕ) (len : ℕ) → IsList next previous len → slice_index next 0 ≡ 0
    → following next len 0 ≡ []
list-empty next previous zero l e = refl
list-empty next previous (suc n) l e = absurd (omega (arith, l.ring.leads.0, e))

-- an id is in the list exactly where its place leads elsewhere
pub list-contains : (next previous : List ℕ) (len x after : ℕ) → IsList next previous len → x + 1 < length next
    → after ≡ slice_index next (x + 1) → IsTrue (not (eqb after (x + 1))) ↔ Contains (following next len 0) x
list-contains next previous len x after l h e = (
  λ t. contains_from_linked next previous (following next len 0) x l.ring h
      (λ q. absurd (not_eqb-apart after (x + 1) t (e ∙ q))),
  λ c. not_eqb-true after (x + 1) (λ q. linked_from_contains next previous (following next len 0) x l.ring c (sym e ∙ q)),
)

-- past the room there is no id
pub list-past : (next previous : List ℕ) (len x : ℕ) → IsList next previous len → length next ≤ x + 1
    → Contains (following next len 0) x → ⊥
list-past next previous len x l h c =
    let low = All-contains (λ id. id + 1 < length next) (following next len 0) x (ids-within next previous (following next len 0) l.ring) c in
    omega (arith, low, h)

pub list-grown : (next previous next' previous' : List ℕ) (len n : ℕ) → IsList next previous len → length next ≤ n
    → n ≤ 2 ^ 32 → IsGrown next next' n → IsGrown previous previous' n
    → IsList next' previous' len × (following next' len 0 ≡ following next len 0)
list-grown next previous next' previous' len n l more fits g b =
    list-of_ring _ _ _ _ (ring-grown next previous next' previous' (following next len 0) n l.ring more g b)
    (length-following next len 0) (omega (arith, g.length_is, fits))

pub list-new : (next previous : List ℕ) (n : ℕ) → 0 < n → n ≤ 2 ^ 32 → IsGrown [] next n → IsGrown [] previous n
    → IsList next previous 0
list-new next previous n h fits g b = record { ring = ring-new next previous n h g b; fits = omega (arith, g.length_is, fits) }

-- what a test that says no leaves
pub list-lacks : (ids : List ℕ) (x : ℕ) (b : Bool) → (Contains ids x → IsTrue b) → b ≡ false → Lacks ids x
list-lacks ids x b says refuted =
    elim (contains_or_lacks ids x) [
      | inl c ↦ absurd (false≢true (sym refuted ∙ says c))
      | inr l ↦ l
    ]
