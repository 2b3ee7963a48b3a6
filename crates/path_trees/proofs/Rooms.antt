-- The room above a tree falls where it rises.
use Rattle.std.proofs.Common.{◌≡◌, ℕ, ◌≤◌, ◌<◌, ◌^◌, zero, suc, List, [], ◌∷◌, ◌++◌, Bool, true, false, cond, refl, ap, sym, subst, inl, inr, ◌⊎◌, arith, length, map, Option, Some, None, get_or}
use Rattle.std.specs.FinMap.{get}
use Rattle.std.proofs.lemmas.Bool.{cases_lt}
use Rattle.rv_names.specs.Keys.{Bytes}
use Rattle.path_trees.specs.declared.steps.Step.{Step}
use Rattle.path_trees.specs.declared.steps.Step.TheVariants.{Attr, Key, Any, Keys}
use Rattle.path_trees.specs.declared.marks.Port.{Port}
use Rattle.path_trees.specs.declared.marks.Port.TheVariants.{Result, Cell}
use Rattle.path_trees.specs.declared.marks.Mark.{Mark}
use Rattle.path_trees.specs.declared.marks.Mark.TheVariants.{Source, Sink, Out}
use Rattle.path_trees.specs.declared.spots.Spot.{Spot}
use Rattle.path_trees.specs.Steps.{IsHeldText, IsHeldStep, AreHeldSteps, IsHeldPath}
use Rattle.path_trees.specs.Spots.{IsHeldPort, IsHeldMark, IsHeldSpot}
use Rattle.path_trees.specs.Trees.{TreeMap, IsWithin, Stands, Below, IsHeldTree}
use Rattle.path_trees.specs.Room.{is_within, missing, below, all_of, words, all_texts, all_steps, all_paths, all_ports, all_outs, all_marks, universe, room}

within_test : (o : Option ℕ) (d : ℕ) → is_within o d ≡ true → IsWithin o d
within_test None d h = absurd (cc)
within_test (Some n) d h = grind (arith)

test_within : (o : Option ℕ) (d : ℕ) → IsWithin o d → is_within o d ≡ true
test_within None d h = absurd h
test_within (Some n) d h = grind (arith)

-- one item of a list
abbrev pub In : {A : Type 0} → A → List A → Type 0
In x [] = ⊥
In x (y ∷ ys) = (x ≡ y) ⊎ In x ys

one_le : (a b : Bool) → (b ≡ true → a ≡ true) → cond a 0 1 ≤ cond b 0 1
one_le true b h = go b
  where
    go : (b : Bool) → 0 ≤ cond b 0 1
    go true = omega arith
    go false = omega arith
one_le false true h = absurd (let k = h refl in cc)
one_le false false h = omega arith

one_less : (a b : Bool) → a ≡ true → (b ≡ true → ⊥) → cond a 0 1 < cond b 0 1
one_less a true p n = absurd (n refl)
one_less true false p n = omega arith
one_less false false p n = absurd (cc)

fewer : (t s : TreeMap) (e : Spot × ℕ) → Below t s → cond (is_within (get s e.0) e.1) 0 1 ≤ cond (is_within (get t e.0) e.1) 0 1
fewer t s e b = one_le _ _ (λ h. test_within (get s e.0) e.1 (b.at e.0 e.1 (within_test (get t e.0) e.1 h)))

pub missing-mono : (t s : TreeMap) (es : List (Spot × ℕ)) → Below t s → missing s es ≤ missing t es
missing-mono t s [] b = omega arith
missing-mono t s (e ∷ es) b = let p = fewer t s e b in let q = missing-mono t s es b in omega arith

pub missing-falls : (t s : TreeMap) (es : List (Spot × ℕ)) (q : Spot) (d : ℕ) → Below t s → In (q, d) es → Stands s q d → (Stands t q d → ⊥) → missing s es < missing t es
missing-falls t s [] q d b m y n = absurd m
missing-falls t s (e ∷ es) q d b (inl p) y n =
    let f : cond (is_within (get s e.0) e.1) 0 1 < cond (is_within (get t e.0) e.1) 0 1 = subst (λ (z : Spot × ℕ). cond (is_within (get s z.0) z.1) 0 1 < cond (is_within (get t z.0) z.1) 0 1) p (one_less _ _ (test_within (get s q) d y) (λ h. n (within_test (get t q) d h))) in
    let r = missing-mono t s es b in omega arith
missing-falls t s (e ∷ es) q d b (inr m) y n = let p = fewer t s e b in let r = missing-falls t s es q d b m y n in omega arith

in_left : {A : Type 0} (x : A) (xs ys : List A) → In x xs → In x (xs ++ ys)
in_left x [] ys h = absurd h
in_left x (y ∷ xs) ys (inl p) = inl p
in_left x (y ∷ xs) ys (inr p) = inr (in_left x xs ys p)

in_right : {A : Type 0} (x : A) (xs ys : List A) → In x ys → In x (xs ++ ys)
in_right x [] ys h = h
in_right x (y ∷ xs) ys h = inr (in_right x xs ys h)

in_map : {A B : Type 0} (f : A → B) (x : A) (xs : List A) → In x xs → In (f x) (map f xs)
in_map f x [] h = absurd h
in_map f x (y ∷ xs) (inl p) = inl (ap f p)
in_map f x (y ∷ xs) (inr p) = inr (in_map f x xs p)

in_all_of : {A B C : Type 0} (f : A → B → C) (x : A) (y : B) (xs : List A) (ys : List B) → In x xs → In y ys → In (f x y) (all_of f xs ys)
in_all_of f x y [] ys h k = absurd h
in_all_of f x y (z ∷ xs) ys (inl p) k = in_left (f x y) (map (f z) ys) (all_of f xs ys) (let P : _ → Type 0 = λ w. In (f x y) (map (f w) ys) in subst P p (in_map (f x) y ys k))
in_all_of f x y (z ∷ xs) ys (inr p) k = in_right (f x y) (map (f z) ys) (all_of f xs ys) (in_all_of f x y xs ys p k)

split_lt : (k n : ℕ) → k < suc n → (k ≡ n) ⊎ (k < n)
split_lt k n h = elim (cases_lt k n) [ inl l ↦ inr l | inr g ↦ inl (omega arith) ]

in_below : (n k : ℕ) → k < n → In k (below n)
unfolding below
in_below zero k h = absurd (omega arith)
in_below (suc n) k h = go (in_below n k) (split_lt k n h)
  where
    go : (k < n → In k (below n)) → (k ≡ n) ⊎ (k < n) → (k ≡ n) ⊎ In k (below n)
    go more (inl e) = inl e
    go more (inr l) = inr (more l)

-- each item of the list is one of some items
abbrev pub AllIn : {A : Type 0} → List A → List A → Type 0
AllIn items [] = Unit {0}
AllIn items (x ∷ xs) = In x items × AllIn items xs

in_words : {A : Type 0} (items : List A) (n : ℕ) (xs : List A) → AllIn items xs → length xs ≤ n → In xs (words items n)
unfolding words
in_words items zero [] h l = inl refl
in_words items zero (x ∷ xs) h l = absurd (omega arith)
in_words items (suc n) [] h l = inl refl
in_words {A} items (suc n) (x ∷ xs) h l = inr (in_all_of (λ (y : A) (ys : List A). y ∷ ys) x xs items (words items n) h.0 (in_words items n xs h.1 (omega arith)))

bytes_in : (n : ℕ) (bytes : List ℕ) → ((k : ℕ) → get_or bytes k 0 < n) → AllIn (below n) bytes
bytes_in n [] h = tt
bytes_in n (b ∷ bytes) h = (in_below n b (h 0), bytes_in n bytes (λ k. h (suc k)))

in_texts : (text : Bytes) → IsHeldText text → In text all_texts
unfolding all_texts
in_texts text h = in_words (below (2 ^ 8)) (2 ^ 64) text (bytes_in (2 ^ 8) text h.bytes) (let s = h.short in omega arith)

-- a step that a program can hold is one of them
pub in_steps : (s : Step) → IsHeldStep s → In s all_steps
unfolding all_steps
in_steps (Attr a) h = in_left (Attr a) (map Attr all_texts) (map Key all_texts ++ Any ∷ Keys ∷ []) (in_map Attr a all_texts (in_texts a h))
in_steps (Key a) h = in_right (Key a) (map Attr all_texts) (map Key all_texts ++ Any ∷ Keys ∷ []) (in_left (Key a) (map Key all_texts) (Any ∷ Keys ∷ []) (in_map Key a all_texts (in_texts a h)))
in_steps Any h = in_right Any (map Attr all_texts) (map Key all_texts ++ Any ∷ Keys ∷ []) (in_right Any (map Key all_texts) (Any ∷ Keys ∷ []) (inl refl))
in_steps Keys h = in_right Keys (map Attr all_texts) (map Key all_texts ++ Any ∷ Keys ∷ []) (in_right Keys (map Key all_texts) (Any ∷ Keys ∷ []) (inr (inl refl)))

steps_in : (p : List Step) → AreHeldSteps p → AllIn all_steps p
steps_in [] h = tt
steps_in (s ∷ p) h = (in_steps s h.0, steps_in p h.1)

in_paths : (p : List Step) → IsHeldPath p → In p all_paths
unfolding all_paths
in_paths p h = in_words all_steps 4 p (steps_in p h.steps) h.short

in_ports : (p : Port) → IsHeldPort p → In p all_ports
unfolding all_ports
in_ports Result h = inl refl
in_ports (Cell s) h = inr (in_map Cell s all_steps (in_steps s h))

in_flags : (b : Bool) → In b (true ∷ false ∷ [])
in_flags true = inl refl
in_flags false = inr (inl refl)

in_outs : (port : Port) (path : List Step) (flat : Bool) → IsHeldPort port → IsHeldPath path → In (Out port path flat) all_outs
unfolding all_outs
in_outs port path flat h k =
    in_all_of (λ (o : Port × List Step) (f : Bool). Out o.0 o.1 f) (port, path) flat (all_of (λ (p : Port) (q : List Step). (p, q)) all_ports all_paths) (true ∷ false ∷ [])
    (in_all_of (λ (p : Port) (q : List Step). (p, q)) port path all_ports all_paths (in_ports port h) (in_paths path k)) (in_flags flat)

in_marks : (m : Mark) → IsHeldMark m → In m all_marks
unfolding all_marks
in_marks (Source k l) h =
    in_left (Source k l) (all_of Source (below (2 ^ 8)) (below (2 ^ 32))) (all_of Sink (below (2 ^ 8)) (below (2 ^ 32)) ++ all_outs)
    (in_all_of Source k l (below (2 ^ 8)) (below (2 ^ 32)) (in_below (2 ^ 8) k h.0) (in_below (2 ^ 32) l h.1))
in_marks (Sink k l) h =
    in_right (Sink k l) (all_of Source (below (2 ^ 8)) (below (2 ^ 32))) (all_of Sink (below (2 ^ 8)) (below (2 ^ 32)) ++ all_outs)
    (in_left (Sink k l) (all_of Sink (below (2 ^ 8)) (below (2 ^ 32))) all_outs (in_all_of Sink k l (below (2 ^ 8)) (below (2 ^ 32)) (in_below (2 ^ 8) k h.0) (in_below (2 ^ 32) l h.1)))
in_marks (Out port path flat) h =
    in_right (Out port path flat) (all_of Source (below (2 ^ 8)) (below (2 ^ 32))) (all_of Sink (below (2 ^ 8)) (below (2 ^ 32)) ++ all_outs)
    (in_right (Out port path flat) (all_of Sink (below (2 ^ 8)) (below (2 ^ 32))) all_outs (in_outs port path flat h.0 h.1))

abbrev spot_of : List Step → Mark → Spot
spot_of p m = record { path = p; mark = m }

pub in_universe : (s : Spot) (d : ℕ) → IsHeldSpot s → d ≤ 63 → In (s, d) universe
unfolding universe
in_universe s d h k =
    in_all_of (λ (s : Spot) (d : ℕ). (s, d)) s d (all_of spot_of all_paths all_marks) (below 64)
    (in_all_of spot_of s.path s.mark all_paths all_marks (in_paths s.path h.path) (in_marks s.mark h.mark)) (in_below 64 d (omega arith))

pub room-mono : (t u : TreeMap) → Below t u → room u ≤ room t
unfolding room
room-mono t u h = missing-mono t u universe h

-- where each distance of u that is in the universe stands in t, all of u does
lacking : (t u : TreeMap) → IsHeldTree u → Below t u → (room u < room t → ⊥) → (s : Spot) (d : ℕ) → get u s ≡ Some d → Stands t s d
unfolding room
lacking t u held h n s d e = go (is_within (get t s) d) refl
  where
    stands : Stands u s d
    stands = subst (λ (o : Option ℕ). IsWithin o d) (sym e) (omega arith)

    go : (b : Bool) → is_within (get t s) d ≡ b → Stands t s d
    go true w = within_test (get t s) d w
    go false w = absurd (n (missing-falls t u universe s d h (in_universe s d (held.spots s d e) (held.near s d e)) stands (λ k. let m = test_within (get t s) d k in cc)))

nearer_stands : (o p : Option ℕ) (e : ℕ) → IsWithin o e → ((d : ℕ) → o ≡ Some d → IsWithin p d) → IsWithin p e
nearer_stands None p e h k = absurd h
nearer_stands (Some n) p e h k = go p (k n refl)
  where
    go : (p : Option ℕ) → IsWithin p n → IsWithin p e
    go None w = absurd w
    go (Some m) w = omega arith

pub room-falls : (t u : TreeMap) → IsHeldTree u → Below t u → (Below u t → ⊥) → room u < room t
room-falls t u held h n = go (cases_lt (room u) (room t))
  where
    go : (room u < room t) ⊎ (room t ≤ room u) → room u < room t
    go (inl l) = l
    go (inr g) = absurd (n (record { at = λ s e w. nearer_stands (get u s) (get t s) e w (λ d p. lacking t u held h (λ l. omega arith) s d p) }))
