-- Each step of an incremental core keeps the facts of its state.
use Rattle.std.proofs.Common.{◌≡◌, ◌≤◌, ◌<◌, ◌+◌, ℕ, List, [], Bool, true, false, cond, Option, Some, None, refl, ap, sym, ◌∙◌, subst, inl, inr, ◌⊎◌, Contains, arith}
use Rattle.std.specs.FinMap.{empty}
use Rattle.std.proofs.lemmas.Bool.{cases_eq, cases_Bool}
use Rattle.path_trees.specs.Trees.{Below}
use Rattle.path_trees.proofs.Finite.{below_trans}
use Rattle.rows.specs.declared.places.Place.{Place}
use Rattle.rows.specs.declared.places.Place.TheVariants.{Node, Result, Back, Put}
use Rattle.rows.specs.declared.inequalities.Row.{Row}
use Rattle.rows.specs.Families.{Family, Families, InputTrees}
use Rattle.rows.specs.Inequalities.{Solves, IsLeast}
use Rattle.rows.specs.Programs.{Body, Bodies, inputs_of, LessWhereRead, Reads, SolvesAll, IsLeastOfAll}
use Rattle.rows.specs.Orders.{CoreFacts, Resets, Gives, LeastStays, GivenSettles}
use Rattle.rows.specs.Cores.{CoreTask, CoreState, present, IsReady, IsFresh, StateFacts, OutBut, CoreStep, take, stale, keep, back, edit, IsStart, IsReached, starts, after, IsClosed, reset}
use Rattle.rows.proofs.Monotony.{where_trans, less_of, least_alike, solves_reading}
use Rattle.rows.proofs.Edits.{below_same, above_same, emptied_below, below_empty, gives_grow, result_keeps, edit_keeps, facts_start, facts_below}

-- a body without rows has the empty trees as its least ones
least_nothing : (I : InputTrees) (rows : List Row) (F : Family) → rows ≡ [] → ((p : Place) → F p ≡ empty) → IsLeast I rows F
least_nothing I rows F e h =
    let X : List Row → Type 0 = λ z. IsLeast I z F in
    subst X (sym e) (record { solves = tt; least = λ G s p. emptied_below (F p) (G p) (h p) })

-- ---- the start, and the end

empty_at : (bodies : Bodies) (M : Families) (g : ℕ) → CoreFacts bodies M → (bodies g).rows ≡ [] → (p : Place) → M g p ≡ empty
empty_at bodies M g u e p =
    let X : List Row → Type 0 = λ z. Solves (inputs_of (bodies g) M) (λ _. empty) z in
    below_empty (M g p) empty (u.ready g (λ _. empty) (subst X (sym e) tt) p) refl

pub state_start : (s : CoreState) → IsStart s → StateFacts s
state_start s i = record {
  stamped = λ g. (let e = i.stamps g in omega arith);
  since = λ g t o. absurd (let n = i.out g in cc);
  core = facts_start s.bodies s.trees i.trees;
  settled = λ g n o. least_nothing (present s g) (s.bodies g).rows (s.trees g) (i.rows g) (i.trees g);
  given = λ g t o. absurd (let n = i.out g in let m = o.0 in cc);
  same = λ g t o r. absurd (let n = i.out g in let m = o.0 in cc);
  under = λ g t o T w p. emptied_below (s.trees g p) (T p) (i.trees g p);
  stale = λ g t o l. inr (i.rows g);
}

pub state_settle : (s : CoreState) → StateFacts s → ((g : ℕ) → IsReady s g → ⊥) → ((g : ℕ) → s.out g ≡ None) → IsLeastOfAll s.bodies s.trees
state_settle s f r o = record {
  solves = λ g. (f.settled g (r g) (o g)).solves;
  least = facts_below s.bodies s.trees f.core;
}

-- ---- tasks out after a step of g

out_cases : (old new : ℕ → Option CoreTask) (g : ℕ) (x : Option CoreTask) → OutBut old new g x → (h : ℕ) (u : CoreTask) → new h ≡ Some u
    → ((h ≡ g) × (x ≡ Some u)) ⊎ ((h ≡ g → ⊥) × (old h ≡ Some u))
out_cases old new g x b h u o = elim (cases_eq h g) [
  | inl e ↦ inl (e, sym b.0 ∙ ap new (sym e) ∙ o)
  | inr n ↦ inr (n, sym (b.1 h n) ∙ o)
]

none_cases : (old new : ℕ → Option CoreTask) (g : ℕ) (x : Option CoreTask) → OutBut old new g x → (h : ℕ) → new h ≡ None
    → ((h ≡ g) × (x ≡ None)) ⊎ ((h ≡ g → ⊥) × (old h ≡ None))
none_cases old new g x b h o = elim (cases_eq h g) [
  | inl e ↦ inl (e, sym b.0 ∙ ap new (sym e) ∙ o)
  | inr n ↦ inr (n, sym (b.1 h n) ∙ o)
]

abbrev task_or : CoreTask → Option CoreTask → CoreTask
task_or t None = t
task_or t (Some u) = u

here : (P : ℕ → CoreTask → Type 0) (g h : ℕ) (t u : CoreTask) → h ≡ g → Some t ≡ Some u → P g t → P h u
here P g h t u e k x =
    let Q : CoreTask → Type 0 = λ z. P g z in
    let R : ℕ → Type 0 = λ z. P z u in
    let same : t ≡ u = ap (task_or t) k in
    subst R (sym e) (subst Q same x)

at : (P : ℕ → Type 0) (g h : ℕ) → h ≡ g → P g → P h
at P g h e x = subst P (sym e) x

le_same : (m n : ℕ) → m ≡ n → m ≤ n
le_same m n e = omega arith

-- ---- take

pub take_keeps : (s : CoreState) (ready : List ℕ) (out : ℕ → Option CoreTask) (g : ℕ) (t : CoreTask) → t.stamp ≡ s.stamps g
    → LessWhereRead (s.bodies g).rows t.given (present s g) → LessWhereRead (s.bodies g).rows (present s g) t.given
    → OutBut s.out out g (Some t) → ((f : ℕ) → (f ≡ g → ⊥) → Contains s.ready f → Contains ready f) → StateFacts s
    → StateFacts (record { bodies = s.bodies; trees = s.trees; stamps = s.stamps; ready = ready; out = out; edits = s.edits })
take_keeps s ready out g t e l m b r f = record {
  stamped = f.stamped;
  since = λ h u o. elim (out_cases s.out out g (Some t) b h u o) [
    | inl a ↦ here (λ z w. w.stamp ≤ s.stamps z) g h t u a.0 a.1 (le_same t.stamp (s.stamps g) e)
    | inr a ↦ f.since h u a.1
  ];
  core = f.core;
  settled = λ h nr o. elim (none_cases s.out out g (Some t) b h o) [
    | inl a ↦ absurd (let k = a.1 in cc)
    | inr a ↦ f.settled h (λ w. nr (r h a.0 w)) a.1
  ];
  given = λ h u o. elim (out_cases s.out out g (Some t) b h u o.0) [
    | inl a ↦ here (λ z w. LessWhereRead (s.bodies z).rows w.given (present s z)) g h t u a.0 a.1 l
    | inr a ↦ f.given h u (a.1, o.1)
  ];
  same = λ h u o nr. elim (out_cases s.out out g (Some t) b h u o.0) [
    | inl a ↦ here (λ z w. LessWhereRead (s.bodies z).rows (present s z) w.given) g h t u a.0 a.1 m
    | inr a ↦ f.same h u (a.1, o.1) (λ w. nr (r h a.0 w))
  ];
  under = λ h u o T w p. elim (out_cases s.out out g (Some t) b h u o.0) [
    | inl a ↦ here (λ z v. Solves v.given T (s.bodies z).rows → Below (s.trees z p) (T p)) g h t u a.0 a.1
        (λ v. f.core.ready g T (solves_reading (present s g) t.given T (s.bodies g).rows m v) p) w
    | inr a ↦ f.under h u (a.1, o.1) T w p
  ];
  stale = λ h u o lt. elim (out_cases s.out out g (Some t) b h u o) [
    | inl a ↦ here (λ z v. v.stamp < s.stamps z → Contains ready z ⊎ ((s.bodies z).rows ≡ [])) g h t u a.0 a.1 (λ k. absurd (omega arith)) lt
    | inr a ↦ elim (f.stale h u a.1 lt) [ inl w ↦ inl (r h a.0 w) | inr z ↦ inr z ]
  ];
}

-- ---- a task that is out no longer, and gives nothing

pub gone_keeps : (s : CoreState) (ready : List ℕ) (out : ℕ → Option CoreTask) (g : ℕ) → OutBut s.out out g None
    → ((f : ℕ) → Contains s.ready f → Contains ready f) → Contains ready g ⊎ ((s.bodies g).rows ≡ []) → StateFacts s
    → StateFacts (record { bodies = s.bodies; trees = s.trees; stamps = s.stamps; ready = ready; out = out; edits = s.edits })
gone_keeps s ready out g b r w f = record {
  stamped = f.stamped;
  since = λ h u o. elim (out_cases s.out out g None b h u o) [ inl a ↦ absurd (let k = a.1 in cc) | inr a ↦ f.since h u a.1 ];
  core = f.core;
  settled = λ h nr o. elim (none_cases s.out out g None b h o) [
    | inl a ↦ at (λ z. (Contains ready z → ⊥) → IsLeast (present s z) (s.bodies z).rows (s.trees z)) g h a.0
        (λ n. elim w [
          | inl y ↦ absurd (n y)
          | inr z ↦ least_nothing (present s g) (s.bodies g).rows (s.trees g) z (empty_at s.bodies s.trees g f.core z)
        ])
        nr
    | inr a ↦ f.settled h (λ y. nr (r h y)) a.1
  ];
  given = λ h u o. elim (out_cases s.out out g None b h u o.0) [ inl a ↦ absurd (let k = a.1 in cc) | inr a ↦ f.given h u (a.1, o.1) ];
  same = λ h u o nr. elim (out_cases s.out out g None b h u o.0) [ inl a ↦ absurd (let k = a.1 in cc) | inr a ↦ f.same h u (a.1, o.1) (λ y. nr (r h y)) ];
  under = λ h u o T v p. elim (out_cases s.out out g None b h u o.0) [ inl a ↦ absurd (let k = a.1 in cc) | inr a ↦ f.under h u (a.1, o.1) T v p ];
  stale = λ h u o lt. elim (out_cases s.out out g None b h u o) [
    | inl a ↦ absurd (let k = a.1 in cc)
    | inr a ↦ elim (f.stale h u a.1 lt) [ inl y ↦ inl (r h y) | inr z ↦ inr z ]
  ];
}

-- ---- a result that is kept

kept_same : (b : Body) (M N : Families) (g : ℕ) (T : Family) → Gives M N g T → ((p : Place) → Reads b g p → M g p ≡ N g p) → (f : ℕ) (p : Place) → Reads b f p → M f p ≡ N f p
kept_same b M N g T d k f p w = elim (cases_eq f g) [
  | inl e ↦ at (λ z. Reads b z p → M z p ≡ N z p) g f e (k p) w
  | inr n ↦ sym (d.there f p n)
]

kept_less : (b : Body) (M N : Families) → ((f : ℕ) (p : Place) → Reads b f p → M f p ≡ N f p) → LessWhereRead b.rows (inputs_of b M) (inputs_of b N)
kept_less b M N k = less_of b M N (λ f p w. below_same (M f p) (N f p) (k f p w))

kept_more : (b : Body) (M N : Families) → ((f : ℕ) (p : Place) → Reads b f p → M f p ≡ N f p) → LessWhereRead b.rows (inputs_of b N) (inputs_of b M)
kept_more b M N k = less_of b N M (λ f p w. above_same (M f p) (N f p) (k f p w))

-- a callable that has the least trees keeps them, where no tree changes that it reads of the one whose result is kept
pub least_stays : LeastStays
least_stays bodies M N g f T d n k least =
    let here = kept_same (bodies f) M N g T d k in
    least_alike (inputs_of (bodies f) M) (inputs_of (bodies f) N) (bodies f).rows (M f) (N f) (kept_less (bodies f) M N here) (kept_more (bodies f) M N here) (λ p. d.there f p n) least

-- and that one has them
pub given_settles : GivenSettles
given_settles bodies M N g I T d k uses more least =
    let here = kept_same (bodies g) M N g T d k in
    least_alike I (inputs_of (bodies g) N) (bodies g).rows T (N g)
    (where_trans (bodies g).rows I (inputs_of (bodies g) M) (inputs_of (bodies g) N) uses (kept_less (bodies g) M N here))
    (where_trans (bodies g).rows (inputs_of (bodies g) N) (inputs_of (bodies g) M) I (kept_more (bodies g) M N here) more)
    d.here least

pub keep_keeps : (s : CoreState) (N : Families) (ready : List ℕ) (out : ℕ → Option CoreTask) (g : ℕ) (t : CoreTask) (T : Family) → IsFresh s g t
    → IsLeast t.given (s.bodies g).rows T → Gives s.trees N g T → OutBut s.out out g None → ((f : ℕ) → Contains s.ready f → Contains ready f)
    → ((f : ℕ) → Contains ready f ⊎ ((p : Place) → Reads (s.bodies f) g p → s.trees g p ≡ N g p)) → StateFacts s
    → StateFacts (record { bodies = s.bodies; trees = N; stamps = s.stamps; ready = ready; out = out; edits = s.edits })
keep_keeps s N ready out g t T fresh least d b r wakes f =
    let M = s.trees in
    let uses = f.given g t fresh in
    let lower = f.under g t fresh T least.solves in
    let grow = gives_grow M N g T d lower in
    record {
      stamped = f.stamped;
      since = λ h u o. elim (out_cases s.out out g None b h u o) [ inl a ↦ absurd (let k = a.1 in cc) | inr a ↦ f.since h u a.1 ];
      core = result_keeps s.bodies M N t.given g T uses lower least d f.core;
      settled = λ h nr o. elim (wakes h) [
        | inl y ↦ absurd (nr y)
        | inr k ↦ elim (none_cases s.out out g None b h o) [
          | inl a ↦ at (λ z. ((p : Place) → Reads (s.bodies z) g p → M g p ≡ N g p) → (Contains ready z → ⊥) → IsLeast (inputs_of (s.bodies z) N) (s.bodies z).rows (N z)) g h a.0
              (λ j n. given_settles s.bodies M N g t.given T d j uses (f.same g t fresh (λ y. n (r g y))) least)
              k nr
          | inr a ↦ least_stays s.bodies M N g h T d a.0 k (f.settled h (λ y. nr (r h y)) a.1)
        ]
      ];
      given = λ h u o. elim (out_cases s.out out g None b h u o.0) [
        | inl a ↦ absurd (let k = a.1 in cc)
        | inr a ↦ where_trans (s.bodies h).rows u.given (present s h) (inputs_of (s.bodies h) N) (f.given h u (a.1, o.1)) (less_of (s.bodies h) M N (λ c p w. grow c p))
      ];
      same = λ h u o nr. elim (out_cases s.out out g None b h u o.0) [
        | inl a ↦ absurd (let k = a.1 in cc)
        | inr a ↦ elim (wakes h) [
          | inl y ↦ absurd (nr y)
          | inr k ↦ where_trans (s.bodies h).rows (inputs_of (s.bodies h) N) (present s h) u.given (kept_more (s.bodies h) M N (kept_same (s.bodies h) M N g T d k)) (f.same h u (a.1, o.1) (λ y. nr (r h y)))
        ]
      ];
      under = λ h u o S v p. elim (out_cases s.out out g None b h u o.0) [
        | inl a ↦ absurd (let k = a.1 in cc)
        | inr a ↦ below_trans (below_same (N h p) (M h p) (d.there h p a.0)) (f.under h u (a.1, o.1) S v p)
      ];
      stale = λ h u o lt. elim (out_cases s.out out g None b h u o) [
        | inl a ↦ absurd (let k = a.1 in cc)
        | inr a ↦ elim (f.stale h u a.1 lt) [ inl y ↦ inl (r h y) | inr z ↦ inr z ]
      ];
    }

-- ---- an edit

edit_same : (old new : Bodies) (R : ℕ → Bool) (M N : Families) → Resets old new R M N → (g : ℕ) → R g ≡ false → (f : ℕ) (p : Place) → Reads (old g) f p → M f p ≡ N f p
edit_same old new R M N d g n f p w = elim (cases_Bool (R f)) [
  | inl y ↦ d.closed g n f p w y ∙ sym (d.emptied f p y)
  | inr k ↦ sym (d.stays f p k)
]

pub step_edit : (s : CoreState) (bodies : Bodies) (N : Families) (stamps : ℕ → ℕ) (ready : List ℕ) (R : ℕ → Bool) → Resets s.bodies bodies R s.trees N
    → ((g : ℕ) → R g ≡ true → (stamps g ≡ s.edits + 1) × (Contains ready g ⊎ ((bodies g).rows ≡ [])))
    → ((g : ℕ) → R g ≡ false → (stamps g ≡ s.stamps g) × (Contains s.ready g → Contains ready g)) → StateFacts s
    → StateFacts (record { bodies = bodies; trees = N; stamps = stamps; ready = ready; out = s.out; edits = s.edits + 1 })
step_edit s bodies N stamps ready R d wiped others f =
    let M = s.trees in
    record {
      stamped = λ g. elim (cases_Bool (R g)) [
        | inl y ↦ (let a = (wiped g y).0 in omega arith)
        | inr n ↦ (let a = (others g n).0 in let c = f.stamped g in omega arith)
      ];
      since = λ g t o. elim (cases_Bool (R g)) [
        | inl y ↦ (let a = (wiped g y).0 in let c = f.stamped g in let e = f.since g t o in omega arith)
        | inr n ↦ (let a = (others g n).0 in let e = f.since g t o in omega arith)
      ];
      core = edit_keeps s.bodies bodies R M N d f.core;
      settled = λ g nr o. elim (cases_Bool (R g)) [
        | inl y ↦ elim (wiped g y).1 [
          | inl w ↦ absurd (nr w)
          | inr z ↦ least_nothing (inputs_of (bodies g) N) (bodies g).rows (N g) z (λ p. d.emptied g p y)
        ]
        | inr n ↦
            (let k = edit_same s.bodies bodies R M N d g n in
            let X : Body → Type 0 = λ b. IsLeast (inputs_of b N) b.rows (N g) in
            subst X (sym (d.bodies g n)) (least_alike (present s g) (inputs_of (s.bodies g) N) (s.bodies g).rows (M g) (N g)
            (kept_less (s.bodies g) M N k) (kept_more (s.bodies g) M N k) (λ p. d.stays g p n) (f.settled g (λ w. nr ((others g n).1 w)) o)))
      ];
      given = λ g t o. elim (cases_Bool (R g)) [
        | inl y ↦ absurd (let a = (wiped g y).0 in let c = f.stamped g in let e = f.since g t o.0 in let i = o.1 in omega arith)
        | inr n ↦
            (let k = edit_same s.bodies bodies R M N d g n in
            let X : Body → Type 0 = λ b. LessWhereRead b.rows t.given (inputs_of b N) in
            subst X (sym (d.bodies g n)) (where_trans (s.bodies g).rows t.given (present s g) (inputs_of (s.bodies g) N)
            (f.given g t (o.0, o.1 ∙ (others g n).0)) (kept_less (s.bodies g) M N k)))
      ];
      same = λ g t o nr. elim (cases_Bool (R g)) [
        | inl y ↦ absurd (let a = (wiped g y).0 in let c = f.stamped g in let e = f.since g t o.0 in let i = o.1 in omega arith)
        | inr n ↦
            (let k = edit_same s.bodies bodies R M N d g n in
            let X : Body → Type 0 = λ b. LessWhereRead b.rows (inputs_of b N) t.given in
            subst X (sym (d.bodies g n)) (where_trans (s.bodies g).rows (inputs_of (s.bodies g) N) (present s g) t.given
            (kept_more (s.bodies g) M N k) (f.same g t (o.0, o.1 ∙ (others g n).0) (λ w. nr ((others g n).1 w)))))
      ];
      under = λ g t o T v p. elim (cases_Bool (R g)) [
        | inl y ↦ emptied_below (N g p) (T p) (d.emptied g p y)
        | inr n ↦
            (let X : Body → Type 0 = λ b. Solves t.given T b.rows in
            below_trans (below_same (N g p) (M g p) (d.stays g p n)) (f.under g t (o.0, o.1 ∙ (others g n).0) T (subst X (d.bodies g n) v) p))
      ];
      stale = λ g t o lt. elim (cases_Bool (R g)) [
        | inl y ↦ (wiped g y).1
        | inr n ↦
            (let a = (others g n).0 in
            elim (f.stale g t o (omega arith)) [
              | inl w ↦ inl ((others g n).1 w)
              | inr z ↦ (let X : Body → Type 0 = λ b. b.rows ≡ [] in inr (subst X (sym (d.bodies g n)) z))
            ])
      ];
    }

-- ---- all steps

pub step_keeps : (s n : CoreState) → CoreStep s n → StateFacts s → StateFacts n
step_keeps s n (take g t o e l m b r) f = take_keeps s _ _ g t e l m b r f
step_keeps s n (stale g t o lt b) f = gone_keeps s s.ready _ g b (λ h w. w) (f.stale g t o lt) f
step_keeps s n (keep g t T fresh least d b r wakes) f = keep_keeps s _ _ _ g t T fresh least d b r wakes f
step_keeps s n (back g b r w) f = gone_keeps s _ _ g b r w f
step_keeps s n (edit R d w o) f = step_edit s _ _ _ _ R d w o f

pub reached_keeps : (s : CoreState) → IsReached s → StateFacts s
reached_keeps s (starts i) = state_start s i
reached_keeps s (after b r n) = step_keeps b s n (reached_keeps b r)

pub reached_below : (s : CoreState) → IsReached s → (G : Families) → SolvesAll s.bodies G → (g : ℕ) (p : Place) → Below (s.trees g p) (G g p)
reached_below s r = facts_below s.bodies s.trees (reached_keeps s r).core

-- ---- reset sets by callees and cells

no_old_tree : (old new : Bodies) (R : ℕ → Bool) (M : Families) → IsClosed old new R M → (g : ℕ) → R g ≡ false → (f : ℕ) (p : Place) → Reads (old g) f p → R f ≡ true → M f p ≡ empty
no_old_tree old new R M c g n f p (inl w) y = absurd (let k = c.callees g w.position f n w.callee in cc)
no_old_tree old new R M c g n f (Node m) (inr w) y = absurd w
no_old_tree old new R M c g n f Result (inr w) y = absurd w
no_old_tree old new R M c g n f (Back i) (inr w) y = absurd w
no_old_tree old new R M c g n f (Put s) (inr w) y = c.cells g f s n w y

pub closed_resets : (old new : Bodies) (R : ℕ → Bool) (M : Families) → IsClosed old new R M → Resets old new R M (reset R M)
closed_resets old new R M c = record {
  bodies = c.bodies;
  emptied = λ g p y. ap (λ b. cond b empty (M g p)) y;
  stays = λ g p n. ap (λ b. cond b empty (M g p)) n;
  closed = no_old_tree old new R M c;
}
