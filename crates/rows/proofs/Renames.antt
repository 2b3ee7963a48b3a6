-- Other numbers for callables: solutions, the least one, and what is reached.
use Rattle.std.proofs.Common.{◌≡◌, ◌<◌, ◌+◌, ℕ, zero, suc, Bool, true, false, List, [], ◌∷◌, map, Option, Some, None, refl, ap, sym, ◌∙◌, subst, inl, inr, ◌⊎◌, Contains, arith, slice_get, IsTrue}
use Rattle.std.specs.FinMap.{empty}
use Rattle.std.specs.Option.{option_map}
use Rattle.std.proofs.lemmas.Option.{none-some, same_Some, slice_get-map}
use Rattle.path_trees.specs.declared.steps.Step.{Step}
use Rattle.path_trees.specs.declared.spots.Spot.{Spot}
use Rattle.path_trees.specs.declared.moves.Move.TheVariants.{Bump}
use Rattle.path_trees.specs.Steps.{meets}
use Rattle.path_trees.specs.Trees.{TreeMap, Below, Stands}
use Rattle.path_trees.specs.Operations.{moved}
use Rattle.path_trees.proofs.Finite.{least_listed}
use Rattle.path_trees.proofs.TreeLaws.{moved-least}
use Rattle.rows.specs.declared.places.Place.{Place}
use Rattle.rows.specs.declared.places.Place.TheVariants.{Node, Result, Back, Put}
use Rattle.rows.specs.declared.inequalities.Row.{Row}
use Rattle.rows.specs.Families.{Family, Families, StandsInCell}
use Rattle.rows.specs.Inequalities.{Solves, IsLeast}
use Rattle.rows.specs.Programs.{Body, Bodies, callee_tree, inputs_of, LessWhereRead, ReadsAsCell, Reads, SolvesAll, IsLeastOfAll}
use Rattle.rows.specs.Orders.{Resets, Gives}
use Rattle.rows.specs.Cores.{CoreTask, CoreState, present, IsFresh, OutBut, CoreStep, take, stale, keep, back, edit, IsStart, IsReached, starts, after}
use Rattle.rows.specs.Numberings.{Numbering, renamed_body, body_of, renamed_bodies, renamed_trees, stamp_of, task_of, renamed_state}
use Rattle.rows.proofs.Joins.{empty_below}
use Rattle.rows.proofs.Monotony.{solves_reading, where_trans}
use Rattle.rows.proofs.Edits.{below_same, above_same}

-- ---- numbers

-- what holds of a callable holds of whom its number is told to be
own : (n : Numbering) (P : Option ℕ → Type 0) (g : ℕ) → P (Some g) → P (n.callable (n.number g))
own n P g h = subst P (sym (n.its_own g)) h

injective : (n : Numbering) (g f : ℕ) → n.number g ≡ n.number f → g ≡ f
injective n g f e = same_Some g f (sym (n.its_own g) ∙ ap n.callable e ∙ n.its_own f)

-- ---- lists of numbers

map_head : (w x : ℕ) (ws : List ℕ) → Contains (w ∷ ws) x → (w ≡ x) ⊎ Contains ws x
map_head w x ws (zero, l, e) = inl e
map_head w x ws (suc k, l, e) = inr (k, omega (arith, l), e)

tail_has : (w x : ℕ) (ws : List ℕ) → Contains ws x → Contains (w ∷ ws) x
tail_has w x ws c = (suc c.0, omega (arith, c.1), c.2)

head_has : (w x : ℕ) (ws : List ℕ) → w ≡ x → Contains (w ∷ ws) x
head_has w x ws e = (0, omega arith, e)

nothing_in : (x : ℕ) → Contains [] x → ⊥
nothing_in x c = absurd (omega (arith, c.1))

map_has : (r : ℕ → ℕ) (xs : List ℕ) (x : ℕ) → Contains xs x → Contains (map r xs) (r x)
map_has r [] x c = absurd (nothing_in x c)
map_has r (w ∷ ws) x c = elim (map_head w x ws c) [
  | inl e ↦ head_has (r w) (r x) (map r ws) (ap r e)
  | inr t ↦ tail_has (r w) (r x) (map r ws) (map_has r ws x t)
]

map_from : (r : ℕ → ℕ) (xs : List ℕ) (y : ℕ) → Contains (map r xs) y → (x : ℕ) × Contains xs x × (r x ≡ y)
map_from r [] y c = absurd (nothing_in y c)
map_from r (w ∷ ws) y c = elim (map_head (r w) y (map r ws) c) [
  | inl e ↦ (w, head_has w w ws refl, e)
  | inr t ↦ (let k = map_from r ws y t in (k.0, tail_has w k.0 ws k.1, k.2))
]

-- more numbers among more callables
map_more : (r : ℕ → ℕ) (xs ys : List ℕ) → ((x : ℕ) → Contains xs x → Contains ys x) → (y : ℕ) → Contains (map r xs) y → Contains (map r ys) y
map_more r xs ys h y c =
    let k = map_from r xs y c in
    let P : ℕ → Type 0 = λ z. Contains (map r ys) z in
    subst P k.2 (map_has r ys k.0 (h k.0 k.1))

-- ---- what bodies read

-- a callee by its position
callee_here : (n : Numbering) (M : Families) (o : Option ℕ) (p : Place) → callee_tree (renamed_trees n M) (option_map n.number o) p ≡ callee_tree M o p
callee_here n M None p = refl
callee_here n M (Some f) p = ap (λ o. callee_tree M o p) (n.its_own f)

callee_same : (n : Numbering) (M : Families) (cs : List ℕ) (k : ℕ) (p : Place) → callee_tree (renamed_trees n M) (slice_get (map n.number cs) k) p ≡ callee_tree M (slice_get cs k) p
callee_same n M cs k p = ap (λ o. callee_tree (renamed_trees n M) o p) (slice_get-map n.number cs k) ∙ callee_here n M (slice_get cs k) p

-- and the same where trees by the new numbers are read by the old ones
callee_there : (n : Numbering) (G : Families) (o : Option ℕ) (p : Place) → callee_tree G (option_map n.number o) p ≡ callee_tree (λ f q. G (n.number f) q) o p
callee_there n G None p = refl
callee_there n G (Some f) p = refl

nothing_moved : (q : Spot) (d : ℕ) → Stands (moved Bump empty) q d → ⊥
nothing_moved q d h =
    let P : TreeMap → Type 0 = λ z. Stands z q d in
    least_listed [] q d (subst P (moved-least Bump []) h)

put_found : (M : Families) (s : Step) (c : Step) (q : Spot) (d : ℕ) → IsTrue (meets c s) → (o : Option ℕ) → Stands (moved Bump (callee_tree M o (Put c))) q d → StandsInCell (λ h c. M h (Put c)) s q d
put_found M s c q d m None k = absurd (nothing_moved q d k)
put_found M s c q d m (Some g) k = record { callable = g; cell = c; meets_it = m; stands = k }

-- what a body is given is the same by the new numbers
given_less : (n : Numbering) (b : Body) (M : Families) → LessWhereRead b.rows (inputs_of (renamed_body n.number b) (renamed_trees n M)) (inputs_of b M)
given_less n b M = record {
  of = λ k p w. below_same _ _ (callee_same n M b.callees k p);
  puts = λ s w q d k. put_found M s k.cell q d k.meets_it (n.callable k.callable) k.stands;
}

given_more : (n : Numbering) (b : Body) (M : Families) → LessWhereRead b.rows (inputs_of b M) (inputs_of (renamed_body n.number b) (renamed_trees n M))
given_more n b M = record {
  of = λ k p w. above_same _ _ (callee_same n M b.callees k p);
  puts = λ s w q d k. record {
    callable = n.number k.callable;
    cell = k.cell;
    meets_it = k.meets_it;
    stands = own n (λ o. Stands (moved Bump (callee_tree M o (Put k.cell))) q d) k.callable k.stands;
  };
}

-- what it is given of trees by the new numbers
given_back : (n : Numbering) (b : Body) (G : Families) → LessWhereRead b.rows (inputs_of b (λ f q. G (n.number f) q)) (inputs_of (renamed_body n.number b) G)
given_back n b G = record {
  of = λ k p w. above_same _ _ (ap (λ o. callee_tree G o p) (slice_get-map n.number b.callees k) ∙ callee_there n G (slice_get b.callees k) p);
  puts = λ s w q d k. record { callable = n.number k.callable; cell = k.cell; meets_it = k.meets_it; stands = k.stands };
}

-- ---- solutions

renamed_solves_at : (n : Numbering) (bodies : Bodies) (M : Families) → SolvesAll bodies M → (o : Option ℕ)
    → Solves (inputs_of (body_of n.number bodies o) (renamed_trees n M)) (λ p. callee_tree M o p) (body_of n.number bodies o).rows
renamed_solves_at n bodies M s None = tt
renamed_solves_at n bodies M s (Some g) =
    solves_reading (inputs_of (renamed_body n.number (bodies g)) (renamed_trees n M)) (inputs_of (bodies g) M) (M g) (bodies g).rows (given_less n (bodies g) M) (s g)

renamed_solves : (n : Numbering) (bodies : Bodies) (M : Families) → SolvesAll bodies M → SolvesAll (renamed_bodies n bodies) (renamed_trees n M)
renamed_solves n bodies M s h = renamed_solves_at n bodies M s (n.callable h)

solves_back : (n : Numbering) (bodies : Bodies) (G : Families) → SolvesAll (renamed_bodies n bodies) G → SolvesAll bodies (λ f q. G (n.number f) q)
solves_back n bodies G s g =
    let P : Option ℕ → Type 0 = λ o. Solves (inputs_of (body_of n.number bodies o) G) (G (n.number g)) (body_of n.number bodies o).rows in
    solves_reading (inputs_of (bodies g) (λ f q. G (n.number f) q)) (inputs_of (renamed_body n.number (bodies g)) G) (G (n.number g)) (bodies g).rows
    (given_back n (bodies g) G) (subst P (n.its_own g) (s (n.number g)))

-- trees that are below others callable by callable are so by the new numbers
renamed_under : (n : Numbering) (M G : Families) → ((g : ℕ) (p : Place) → Below (M g p) (G (n.number g) p)) → (h : ℕ) (p : Place) → Below (renamed_trees n M h p) (G h p)
renamed_under n M G b h p = go (n.callable h) refl
  where
    go : (o : Option ℕ) → n.callable h ≡ o → Below (callee_tree M o p) (G h p)
    go None e = empty_below (G h p)
    go (Some g) e = let P : ℕ → Type 0 = λ z. Below (M g p) (G z p) in subst P (n.its_only h g e) (b g p)

pub renamed_least : (n : Numbering) (bodies : Bodies) (M : Families) → IsLeastOfAll bodies M → IsLeastOfAll (renamed_bodies n bodies) (renamed_trees n M)
renamed_least n bodies M l = record {
  solves = renamed_solves n bodies M l.solves;
  least = λ G s h p. renamed_under n M G (λ g q. l.least (λ f r. G (n.number f) r) (solves_back n bodies G s) g q) h p;
}

pub least_back : (n : Numbering) (bodies : Bodies) (N : Families) → IsLeastOfAll (renamed_bodies n bodies) N → IsLeastOfAll bodies (λ g p. N (n.number g) p)
least_back n bodies N l = record {
  solves = solves_back n bodies N l.solves;
  least = λ G s g p.
      let P : Option ℕ → Type 0 = λ o. Below (N (n.number g) p) (callee_tree G o p) in
      subst P (n.its_own g) (l.least (renamed_trees n G) (renamed_solves n bodies G s) (n.number g) p);
}

-- ---- the start

rows_none : (n : Numbering) (bodies : Bodies) → ((g : ℕ) → (bodies g).rows ≡ []) → (o : Option ℕ) → (body_of n.number bodies o).rows ≡ []
rows_none n bodies e None = refl
rows_none n bodies e (Some g) = e g

trees_none : (M : Families) → ((g : ℕ) (p : Place) → M g p ≡ empty) → (o : Option ℕ) (p : Place) → callee_tree M o p ≡ empty
trees_none M e None p = refl
trees_none M e (Some g) p = e g p

stamps_none : (stamps : ℕ → ℕ) → ((g : ℕ) → stamps g ≡ 0) → (o : Option ℕ) → stamp_of stamps o ≡ 0
stamps_none stamps e None = refl
stamps_none stamps e (Some g) = e g

tasks_none : (out : ℕ → Option CoreTask) → ((g : ℕ) → out g ≡ None) → (o : Option ℕ) → task_of out o ≡ None
tasks_none out e None = refl
tasks_none out e (Some g) = e g

renamed_start : (n : Numbering) (s : CoreState) → IsStart s → IsStart (renamed_state n s)
renamed_start n s i = record {
  rows = λ h. rows_none n s.bodies i.rows (n.callable h);
  trees = λ h p. trees_none s.trees i.trees (n.callable h) p;
  stamps = λ h. stamps_none s.stamps i.stamps (n.callable h);
  out = λ h. tasks_none s.out i.out (n.callable h);
}

-- ---- parts of steps

renamed_out : (n : Numbering) (old new : ℕ → Option CoreTask) (g : ℕ) (t : Option CoreTask) → OutBut old new g t
    → OutBut (λ h. task_of old (n.callable h)) (λ h. task_of new (n.callable h)) (n.number g) t
renamed_out n old new g t b = (
  ap (task_of new) (n.its_own g) ∙ b.0,
  λ f d. go f d (n.callable f) refl,
)
  where
    go : (f : ℕ) → (f ≡ n.number g → ⊥) → (o : Option ℕ) → n.callable f ≡ o → task_of new o ≡ task_of old o
    go f d None e = refl
    go f d (Some k) e = b.1 k (λ same. d (sym (n.its_only f k e) ∙ ap n.number same))

renamed_gives : (n : Numbering) (M N : Families) (g : ℕ) (T : Family) → Gives M N g T → Gives (renamed_trees n M) (renamed_trees n N) (n.number g) T
renamed_gives n M N g T d = record {
  here = λ p. ap (λ o. callee_tree N o p) (n.its_own g) ∙ d.here p;
  there = λ f p a. go f p a (n.callable f) refl;
}
  where
    go : (f : ℕ) (p : Place) → (f ≡ n.number g → ⊥) → (o : Option ℕ) → n.callable f ≡ o → callee_tree N o p ≡ callee_tree M o p
    go f p a None e = refl
    go f p a (Some k) e = d.there k p (λ same. a (sym (n.its_only f k e) ∙ ap n.number same))

-- what a body by the new numbers reads
place_read : (r : ℕ → ℕ) (b : Body) (p : Place) → ReadsAsCell (renamed_body r b) p → ReadsAsCell b p
place_read r b (Node m) w = w
place_read r b Result w = w
place_read r b (Back i) w = w
place_read r b (Put c) w = w

callee_found : (n : Numbering) (o : Option ℕ) (f : ℕ) → option_map n.number o ≡ Some (n.number f) → o ≡ Some f
callee_found n None f e = absurd (none-some (n.number f) e)
callee_found n (Some g) f e = ap Some (injective n g f (same_Some (n.number g) (n.number f) e))

renamed_reads : (n : Numbering) (b : Body) (f : ℕ) (p : Place) → Reads (renamed_body n.number b) (n.number f) p → Reads b f p
renamed_reads n b f p (inl w) = inl (record {
  position = w.position;
  callee = callee_found n (slice_get b.callees w.position) f (sym (slice_get-map n.number b.callees w.position) ∙ w.callee);
  reads = w.reads;
})
renamed_reads n b f p (inr w) = inr (place_read n.number b p w)

no_place_read : (p : Place) → ReadsAsCell (record { rows = []; callees = [] }) p → ⊥
no_place_read (Node m) w = w
no_place_read Result w = w
no_place_read (Back i) w = w
no_place_read (Put c) w = w

nothing_read : (f : ℕ) (p : Place) → Reads (record { rows = []; callees = [] }) f p → ⊥
nothing_read f p (inl w) = w.reads
nothing_read f p (inr w) = no_place_read p w

-- ---- steps

renamed_take : (n : Numbering) (s : CoreState) (ready : List ℕ) (out : ℕ → Option CoreTask) (g : ℕ) (t : CoreTask) → s.out g ≡ None → t.stamp ≡ s.stamps g
    → LessWhereRead (s.bodies g).rows t.given (present s g) → LessWhereRead (s.bodies g).rows (present s g) t.given
    → OutBut s.out out g (Some t) → ((f : ℕ) → (f ≡ g → ⊥) → Contains s.ready f → Contains ready f)
    → CoreStep (renamed_state n s) (renamed_state n (record { bodies = s.bodies; trees = s.trees; stamps = s.stamps; ready = ready; out = out; edits = s.edits }))
renamed_take n s ready out g t o e l m b r =
    let N : Families = renamed_trees n s.trees in
    let rows : List Row = (s.bodies g).rows in
    take {s = renamed_state n s} {ready = map n.number ready} {out = λ h. task_of out (n.callable h)} (n.number g) t
    (own n (λ x. task_of s.out x ≡ None) g o)
    (own n (λ x. t.stamp ≡ stamp_of s.stamps x) g e)
    (own n (λ x. LessWhereRead (body_of n.number s.bodies x).rows t.given (inputs_of (body_of n.number s.bodies x) N)) g
    (where_trans rows t.given (present s g) (inputs_of (renamed_body n.number (s.bodies g)) N) l (given_more n (s.bodies g) s.trees)))
    (own n (λ x. LessWhereRead (body_of n.number s.bodies x).rows (inputs_of (body_of n.number s.bodies x) N) t.given) g
    (where_trans rows (inputs_of (renamed_body n.number (s.bodies g)) N) (present s g) t.given (given_less n (s.bodies g) s.trees) m))
    (renamed_out n s.out out g (Some t) b)
    (λ f d c.
    let k = map_from n.number s.ready f c in
    let P : ℕ → Type 0 = λ z. Contains (map n.number ready) z in
    subst P k.2 (map_has n.number ready k.0 (r k.0 (λ same. d (sym k.2 ∙ ap n.number same)) k.1)))

renamed_stale : (n : Numbering) (s : CoreState) (out : ℕ → Option CoreTask) (g : ℕ) (t : CoreTask) → s.out g ≡ Some t → t.stamp < s.stamps g → OutBut s.out out g None
    → CoreStep (renamed_state n s) (renamed_state n (record { bodies = s.bodies; trees = s.trees; stamps = s.stamps; ready = s.ready; out = out; edits = s.edits }))
renamed_stale n s out g t o l b =
    stale {s = renamed_state n s} {out = λ h. task_of out (n.callable h)} (n.number g) t
    (own n (λ x. task_of s.out x ≡ Some t) g o) (own n (λ x. t.stamp < stamp_of s.stamps x) g l) (renamed_out n s.out out g None b)

renamed_keep : (n : Numbering) (s : CoreState) (N : Families) (ready : List ℕ) (out : ℕ → Option CoreTask) (g : ℕ) (t : CoreTask) (T : Family) → IsFresh s g t
    → IsLeast t.given (s.bodies g).rows T → Gives s.trees N g T → OutBut s.out out g None → ((f : ℕ) → Contains s.ready f → Contains ready f)
    → ((f : ℕ) → Contains ready f ⊎ ((p : Place) → Reads (s.bodies f) g p → s.trees g p ≡ N g p))
    → CoreStep (renamed_state n s) (renamed_state n (record { bodies = s.bodies; trees = N; stamps = s.stamps; ready = ready; out = out; edits = s.edits }))
renamed_keep n s N ready out g t T fresh least d b r wakes =
    keep {s = renamed_state n s} {trees = renamed_trees n N} {ready = map n.number ready} {out = λ h. task_of out (n.callable h)} (n.number g) t T
    (own n (λ x. task_of s.out x ≡ Some t) g fresh.0, own n (λ x. t.stamp ≡ stamp_of s.stamps x) g fresh.1)
    (own n (λ x. IsLeast t.given (body_of n.number s.bodies x).rows T) g least)
    (renamed_gives n s.trees N g T d) (renamed_out n s.out out g None b) (map_more n.number s.ready ready r)
    (λ f. go f (n.callable f) refl)
  where
    go : (f : ℕ) (x : Option ℕ) → n.callable f ≡ x
        → Contains (map n.number ready) f ⊎ ((p : Place) → Reads (body_of n.number s.bodies x) (n.number g) p → renamed_trees n s.trees (n.number g) p ≡ renamed_trees n N (n.number g) p)
    go f None e = inr (λ p w. absurd (nothing_read (n.number g) p w))
    go f (Some k) e = elim (wakes k) [
      | inl y ↦ (let P : ℕ → Type 0 = λ z. Contains (map n.number ready) z in inl (subst P (n.its_only f k e) (map_has n.number ready k y)))
      | inr same ↦ inr (λ p w. own n (λ x. callee_tree s.trees x p ≡ callee_tree N x p) g (same p (renamed_reads n (s.bodies k) g p w)))
    ]

renamed_back : (n : Numbering) (s : CoreState) (ready : List ℕ) (out : ℕ → Option CoreTask) (g : ℕ) → OutBut s.out out g None
    → ((f : ℕ) → Contains s.ready f → Contains ready f) → Contains ready g ⊎ ((s.bodies g).rows ≡ [])
    → CoreStep (renamed_state n s) (renamed_state n (record { bodies = s.bodies; trees = s.trees; stamps = s.stamps; ready = ready; out = out; edits = s.edits }))
renamed_back n s ready out g b r w =
    back {s = renamed_state n s} {ready = map n.number ready} {out = λ h. task_of out (n.callable h)} (n.number g)
    (renamed_out n s.out out g None b) (map_more n.number s.ready ready r)
    (own n (λ x. Contains (map n.number ready) (n.number g) ⊎ ((body_of n.number s.bodies x).rows ≡ [])) g (elim w [
      | inl y ↦ inl (map_has n.number ready g y)
      | inr z ↦ inr z
    ]))

-- ---- an edit

abbrev among : (ℕ → Bool) → Option ℕ → Bool
among R None = false
among R (Some g) = R g

renamed_resets : (n : Numbering) (old new : Bodies) (R : ℕ → Bool) (M N : Families) → Resets old new R M N
    → Resets (renamed_bodies n old) (renamed_bodies n new) (λ h. among R (n.callable h)) (renamed_trees n M) (renamed_trees n N)
renamed_resets n old new R M N d = record {
  bodies = λ h e. kept (n.callable h) e;
  emptied = λ h p e. gone (n.callable h) p e;
  stays = λ h p e. stays (n.callable h) p e;
  closed = λ h e f p w y. closed (n.callable h) e f p w (n.callable f) refl y;
}
  where
    kept : (x : Option ℕ) → among R x ≡ false → body_of n.number new x ≡ body_of n.number old x
    kept None e = refl
    kept (Some g) e = ap (λ b. renamed_body n.number b) (d.bodies g e)

    gone : (x : Option ℕ) (p : Place) → among R x ≡ true → callee_tree N x p ≡ empty
    gone None p e = refl
    gone (Some g) p e = d.emptied g p e

    stays : (x : Option ℕ) (p : Place) → among R x ≡ false → callee_tree N x p ≡ callee_tree M x p
    stays None p e = refl
    stays (Some g) p e = d.stays g p e

    closed : (x : Option ℕ) → among R x ≡ false → (f : ℕ) (p : Place) → Reads (body_of n.number old x) f p → (y : Option ℕ) → n.callable f ≡ y → among R y ≡ true → callee_tree M y p ≡ empty
    closed None e f p w y q z = absurd (nothing_read f p w)
    closed (Some g) e f p w None q z = refl
    closed (Some g) e f p w (Some k) q z =
        let P : ℕ → Type 0 = λ u. Reads (renamed_body n.number (old g)) u p in
        d.closed g e k p (renamed_reads n (old g) k p (subst P (sym (n.its_only f k q)) w)) z

renamed_edit : (n : Numbering) (s : CoreState) (bodies : Bodies) (N : Families) (stamps : ℕ → ℕ) (ready : List ℕ) (R : ℕ → Bool) → Resets s.bodies bodies R s.trees N
    → ((g : ℕ) → R g ≡ true → (stamps g ≡ s.edits + 1) × (Contains ready g ⊎ ((bodies g).rows ≡ [])))
    → ((g : ℕ) → R g ≡ false → (stamps g ≡ s.stamps g) × (Contains s.ready g → Contains ready g))
    → CoreStep (renamed_state n s) (renamed_state n (record { bodies = bodies; trees = N; stamps = stamps; ready = ready; out = s.out; edits = s.edits + 1 }))
renamed_edit n s bodies N stamps ready R d wiped others =
    edit {s = renamed_state n s} {bodies = renamed_bodies n bodies} {trees = renamed_trees n N} {stamps = λ h. stamp_of stamps (n.callable h)} {ready = map n.number ready}
    (λ h. among R (n.callable h)) (renamed_resets n s.bodies bodies R s.trees N d)
    (λ h y. wiped_at h (n.callable h) refl y)
    (λ h e. (
      stays (n.callable h) e,
      λ c.
          let k = map_from n.number s.ready h c in
          let P : ℕ → Type 0 = λ z. Contains (map n.number ready) z in
          let out : R k.0 ≡ false = sym (ap (λ x. among R x) (n.its_own k.0)) ∙ ap (λ z. among R (n.callable z)) k.2 ∙ e in
          subst P k.2 (map_has n.number ready k.0 ((others k.0 out).1 k.1)),
    ))
  where
    wiped_at : (h : ℕ) (x : Option ℕ) → n.callable h ≡ x → among R x ≡ true → (stamp_of stamps x ≡ s.edits + 1) × (Contains (map n.number ready) h ⊎ ((body_of n.number bodies x).rows ≡ []))
    wiped_at h None e y = absurd (cc)
    wiped_at h (Some g) e y = (
      (wiped g y).0,
      elim (wiped g y).1 [
        | inl c ↦ (let P : ℕ → Type 0 = λ z. Contains (map n.number ready) z in inl (subst P (n.its_only h g e) (map_has n.number ready g c)))
        | inr z ↦ inr z
      ],
    )

    stays : (x : Option ℕ) → among R x ≡ false → stamp_of stamps x ≡ stamp_of s.stamps x
    stays None e = refl
    stays (Some g) e = (others g e).0

-- ---- all steps

renamed_step : (n : Numbering) (s t : CoreState) → CoreStep s t → CoreStep (renamed_state n s) (renamed_state n t)
renamed_step n s t (take {ready} {out} g u o e l m b r) = renamed_take n s ready out g u o e l m b r
renamed_step n s t (stale {out} g u o l b) = renamed_stale n s out g u o l b
renamed_step n s t (keep {trees} {ready} {out} g u T fresh least d b r wakes) = renamed_keep n s trees ready out g u T fresh least d b r wakes
renamed_step n s t (back {ready} {out} g b r w) = renamed_back n s ready out g b r w
renamed_step n s t (edit {bodies} {trees} {stamps} {ready} R d w o) = renamed_edit n s bodies trees stamps ready R d w o

pub renamed_reached : (n : Numbering) (s : CoreState) → IsReached s → IsReached (renamed_state n s)
renamed_reached n s (starts i) = starts (renamed_start n s i)
renamed_reached n s (after b r x) = after (renamed_state n b) (renamed_reached n b r) (renamed_step n b s x)
