-- The way that the links lead: the ids on it, and what becomes of it when the links change.
use Rattle.std.proofs.Common.{◌≡◌, ◌≢◌, ℕ, ◌+◌, ◌-◌, ◌<◌, suc, List, [], ◌∷◌, ◌++◌, length, slice_index, get_or, refl, sym, ◌∙◌, ap, subst, arith, inl, inr}
use Rattle.std.specs.Prelude.{All}
use Rattle.std.proofs.lemmas.Bool.{cases_eq}
use Rattle.std.proofs.lemmas.Bool.Decides.{nat_tests}
use Rattle.std.proofs.lemmas.List.Elements.{All-head, All-tail, All-cons, All-nil}
use Rattle.ready_list.specs.Ring.{following, LeadsThrough, Lacks, HasNoRepeats, IsUndoneBy, relinked}
use Rattle.ready_list.specs.Listed.{without}
use Rattle.ready_list.proofs.Relinked.{relinked-last, relinked-first, relinked-other, same_from_links}

pub apart-head : (x : ℕ) (xs : List ℕ) → HasNoRepeats (x ∷ xs) → All (λ y. x ≢ y) xs
apart-head x xs a = λ k d h. a 0 (suc k) d (omega arith) (omega arith)

pub apart-tail : (x : ℕ) (xs : List ℕ) → HasNoRepeats (x ∷ xs) → HasNoRepeats xs
apart-tail x xs a = λ i j d l h. a (suc i) (suc j) d (omega arith) (omega arith)

-- the first ids behind a place are those that it leads through
pub following-leads : (next : List ℕ) (place : ℕ) (ids : List ℕ) → LeadsThrough next place ids
    → following next (length ids) place ≡ ids
following-leads next place [] h = refl
following-leads next place (id ∷ ids) h =
    let first : slice_index next place - 1 ≡ id = omega (arith, h.0) in
    let rest : following next (length ids) (slice_index next place) ≡ ids =
    ap (λ (p : ℕ). following next (length ids) p) h.0 ∙ following-leads next (id + 1) ids h.1 in
    cc

-- the ids on the way are within
pub leads-within : (next previous : List ℕ) → IsUndoneBy previous next → (place : ℕ) (ids : List ℕ) → place < length next
    → LeadsThrough next place ids → All (λ id. id + 1 < length next) ids
leads-within next previous u place [] h l = All-nil (λ id. id + 1 < length next)
leads-within next previous u place (id ∷ ids) h l =
    let here : id + 1 < length next = subst (λ (k : ℕ). k < length next) l.0 (u.within place h) in
    All-cons (λ k. k + 1 < length next) id ids here (leads-within next previous u (id + 1) ids here l.1)

-- an id on the way isn't alone
pub leads-on : (next : List ℕ) (place : ℕ) (ids : List ℕ) → HasNoRepeats ids → LeadsThrough next place ids
    → All (λ id. slice_index next (id + 1) ≢ id + 1) ids
leads-on next place [] a l = All-nil (λ id. slice_index next (id + 1) ≢ id + 1)
leads-on next place (id ∷ []) a l =
    All-cons (λ k. slice_index next (k + 1) ≢ k + 1) id [] (λ e. absurd (omega (arith, e, l.1))) (leads-on next (id + 1) [] (apart-tail id [] a) l.1)
leads-on next place (id ∷ (k ∷ ids)) a l =
    let other : id ≢ k = All-head (λ y. id ≢ y) k ids (apart-head id (k ∷ ids) a) in
    All-cons (λ m. slice_index next (m + 1) ≢ m + 1) id (k ∷ ids) (λ e. other (omega (arith, e, l.1.0)))
    (leads-on next (id + 1) (k ∷ ids) (apart-tail id (k ∷ ids) a) l.1)

-- links that agree on the way lead through the same ids
pub leads-same : (next changed : List ℕ) (place start : ℕ) (ids : List ℕ)
    → slice_index changed start ≡ slice_index next place
    → All (λ id. slice_index changed (id + 1) ≡ slice_index next (id + 1)) ids
    → LeadsThrough next place ids → LeadsThrough changed start ids
leads-same next changed place start [] e same l = e ∙ l
leads-same next changed place start (id ∷ ids) e same l = (
  e ∙ l.0,
  leads-same next changed (id + 1) (id + 1) ids
      (All-head (λ k. slice_index changed (k + 1) ≡ slice_index next (k + 1)) id ids same)
      (All-tail (λ k. slice_index changed (k + 1) ≡ slice_index next (k + 1)) id ids same) l.1,
)

-- a number, left out where it stands first
pub without-same : (x w : ℕ) (ws : List ℕ) → w ≡ x → without x (w ∷ ws) ≡ without x ws
without-same x w ws e = grind (arith, nat_tests)

pub without-other : (x w : ℕ) (ws : List ℕ) → w ≢ x → without x (w ∷ ws) ≡ w ∷ without x ws
without-other x w ws ne = grind (arith, nat_tests)

pub without-absent : (x : ℕ) (ws : List ℕ) → All (λ w. w ≢ x) ws → without x ws ≡ ws
without-absent x [] a = refl
without-absent x (w ∷ ws) a =
    without-other x w ws (All-head (λ k. k ≢ x) w ws a) ∙ ap (λ (ks : List ℕ). w ∷ ks) (without-absent x ws (All-tail (λ k. k ≢ x) w ws a))

-- x, taken out from behind p: the way from a place to the head loses it, and the rest keeps its order
pub leads-dropped : (next previous : List ℕ) (p x : ℕ) → IsUndoneBy previous next → p < length next → x + 1 < length next
    → slice_index next p ≡ x + 1 → (place : ℕ) (ids : List ℕ) → place < length next → place ≢ x + 1
    → All (λ id. place ≢ id + 1) ids → HasNoRepeats ids → LeadsThrough next place ids
    → LeadsThrough (relinked next p (slice_index next (x + 1)) (x + 1) (x + 1)) place (without x ids)
leads-dropped next previous p x u hp hx lp place [] h ne past apart l =
    let other : place ≢ p = λ e. absurd (omega (arith, ap (λ (k : ℕ). slice_index next k) e, l, lp)) in
    relinked-other next p (slice_index next (x + 1)) (x + 1) (x + 1) place other ne ∙ l
leads-dropped next previous p x u hp hx lp place (id ∷ ids) h ne past apart l =
    let changed = relinked next p (slice_index next (x + 1)) (x + 1) (x + 1) in
    elim (cases_eq id x) [
      | inl e ↦
          let at_p : place ≡ p = same_from_links previous next u place p h hp (l.0 ∙ ap (λ (k : ℕ). k + 1) e ∙ sym lp) in
          let not_x : p ≢ x + 1 = λ w. ne (at_p ∙ w) in
          let starts : slice_index changed place ≡ slice_index next (id + 1) =
          ap (λ (k : ℕ). slice_index changed k) at_p ∙ relinked-first next p (slice_index next (x + 1)) (x + 1) (x + 1) hp not_x
          ∙ ap (λ (k : ℕ). slice_index next (k + 1)) (sym e) in
          let absent : All (λ w. w ≢ x) ids = λ k d m q. apart-head id ids apart k d m (e ∙ sym q) in
          let same : All (λ w. slice_index changed (w + 1) ≡ slice_index next (w + 1)) ids =
          λ k d m. relinked-other next p (slice_index next (x + 1)) (x + 1) (x + 1) (get_or ids k d + 1)
          (λ q. All-tail (λ w. place ≢ w + 1) id ids past k d m (at_p ∙ sym q))
          (λ q. absent k d m (omega (arith, q))) in
          let to : without x (id ∷ ids) ≡ ids = without-same x id ids e ∙ without-absent x ids absent in
          subst (λ (ks : List ℕ). LeadsThrough changed place ks) (sym to)
          (leads-same next changed (id + 1) place ids starts same l.1)
      | inr other ↦
          let not_p : place ≢ p = λ q. other (omega (arith, ap (λ (k : ℕ). slice_index next k) q, l.0, lp)) in
          let here : id + 1 < length next = subst (λ (k : ℕ). k < length next) l.0 (u.within place h) in
          let first : slice_index changed place ≡ id + 1 =
          relinked-other next p (slice_index next (x + 1)) (x + 1) (x + 1) place not_p ne ∙ l.0 in
          subst (λ (ks : List ℕ). LeadsThrough changed place ks) (sym (without-other x id ids other)) (
            first,
            leads-dropped next previous p x u hp hx lp (id + 1) ids here (λ q. other (omega (arith, q)))
                (λ k d m q. apart-head id ids apart k d m (omega (arith, q))) (apart-tail id ids apart) l.1,
          )
    ]

-- x, put in between p and the head: the way from a place to the head ends with it
pub leads-pushed : (next previous : List ℕ) (p x : ℕ) → IsUndoneBy previous next → p < length next → x + 1 < length next
    → slice_index next p ≡ 0 → p ≢ x + 1 → (place : ℕ) (ids : List ℕ) → place < length next → place ≢ x + 1
    → Lacks ids x → LeadsThrough next place ids
    → LeadsThrough (relinked next p (x + 1) (x + 1) 0) place (ids ++ x ∷ [])
leads-pushed next previous p x u hp hx lp np place [] h ne absent l =
    let at_p : place ≡ p = same_from_links previous next u place p h hp (l ∙ sym lp) in (
      ap (λ (k : ℕ). slice_index (relinked next p (x + 1) (x + 1) 0) k) at_p ∙ relinked-first next p (x + 1) (x + 1) 0 hp np,
      relinked-last next p (x + 1) (x + 1) 0 hx,
    )
leads-pushed next previous p x u hp hx lp np place (id ∷ ids) h ne absent l =
    let not_p : place ≢ p = λ q. absurd (omega (arith, ap (λ (k : ℕ). slice_index next k) q, l.0, lp)) in
    let here : id + 1 < length next = subst (λ (k : ℕ). k < length next) l.0 (u.within place h) in
    let other : id ≢ x = All-head (λ w. w ≢ x) id ids absent in (
      relinked-other next p (x + 1) (x + 1) 0 place not_p ne ∙ l.0,
      leads-pushed next previous p x u hp hx lp np (id + 1) ids here (λ q. other (omega (arith, q)))
          (All-tail (λ w. w ≢ x) id ids absent) l.1,
    )
