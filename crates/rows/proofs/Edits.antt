-- The facts of an incremental run are kept by each result, also one for trees that are out of date, and by each edit.
use Rattle.std.proofs.Common.{◌≡◌, ℕ, Bool, true, false, cond, not, ◌&&◌, Option, Some, None, refl, ap, sym, ◌∙◌, subst, inl, inr}
use Rattle.std.specs.FinMap.{empty}
use Rattle.std.proofs.lemmas.Bool.{cases_eq, cases_Bool}
use Rattle.std.specs.Option.{MatchOption}
use Rattle.path_trees.specs.Trees.{TreeMap, Below}
use Rattle.path_trees.proofs.Finite.{below_refl, below_trans, below_antisymm}
use Rattle.rows.specs.declared.places.Place.{Place}
use Rattle.rows.specs.declared.places.Place.TheVariants.{Node}
use Rattle.rows.specs.Families.{Family, Families, InputTrees}
use Rattle.rows.specs.Inequalities.{Solves, IsLeast}
use Rattle.rows.specs.Programs.{Body, Bodies, inputs_of, SolvesAll, IsLeastOfAll, LessWhereRead, Reads}
use Rattle.rows.specs.Orders.{only, IsPart, SolvesPart, CoreFacts, Resets, TaskFacts, Gives, Tasks, TasksFacts, Reached, start, take, give, back, edit, AnyOrderSettles, SettledStays, ModelsSettle}
use Rattle.rows.proofs.Joins.{empty_below}
use Rattle.rows.proofs.Monotony.{where_trans, less_of, solves_reading, body_reading, body_for_less, solves_untouched}

pub below_same : (t u : TreeMap) → t ≡ u → Below t u
below_same t u e = let P : TreeMap → Type 0 = λ z. Below t z in subst P e (below_refl t)

pub above_same : (t u : TreeMap) → t ≡ u → Below u t
above_same t u e = below_same u t (sym e)

pub emptied_below : (t u : TreeMap) → t ≡ empty → Below t u
emptied_below t u e = below_trans (below_same t empty e) (empty_below u)

pub below_empty : (t u : TreeMap) → Below t u → u ≡ empty → t ≡ empty
below_empty t u b e = below_antisymm t empty (below_trans b (below_same u empty e)) (empty_below t)

pub gives_grow : (M N : Families) (g : ℕ) (T : Family) → Gives M N g T → ((p : Place) → Below (M g p) (T p)) → (f : ℕ) (p : Place) → Below (M f p) (N f p)
gives_grow M N g T d h f p = elim (cases_eq f g) [
  | inl e ↦ (let P : ℕ → Type 0 = λ z. Below (M z p) (N z p) in subst P (sym e) (below_trans (h p) (above_same (N g p) (T p) (d.here p))))
  | inr n ↦ above_same (N f p) (M f p) (d.there f p n)
]

only_in : (P : ℕ → Bool) (M : Families) (f : ℕ) (p : Place) → P f ≡ true → M f p ≡ only P M f p
only_in P M f p h = sym (ap (λ b. cond b (M f p) empty) h)

-- what was given is below what is given of a part
given_part : (b : Body) (I : InputTrees) (M N : Families) → LessWhereRead b.rows I (inputs_of b M) → ((f : ℕ) (p : Place) → Reads b f p → Below (M f p) (N f p)) → LessWhereRead b.rows I (inputs_of b N)
given_part b I M N l h = where_trans b.rows I (inputs_of b M) (inputs_of b N) l (less_of b M N h)

-- a result keeps them, where what its body was given is below the present trees
pub result_keeps : (bodies : Bodies) (M N : Families) (I : InputTrees) (g : ℕ) (T : Family)
    → LessWhereRead (bodies g).rows I (inputs_of (bodies g) M) → ((p : Place) → Below (M g p) (T p))
    → IsLeast I (bodies g).rows T → Gives M N g T → CoreFacts bodies M → CoreFacts bodies N
result_keeps bodies M N I g T uses under t d u =
    let grow = gives_grow M N g T d under in
    record {
      parts = λ P q G s f p pf.
          let was : IsPart bodies P M = λ a pa b c w n. below_empty (M b c) (N b c) (grow b c) (q a pa b c w n) in
          let old = u.parts P was G s in
          elim (cases_eq f g) [
            | inl e ↦
                (let pg : P g ≡ true = ap P (sym e) ∙ pf in
                let Q : ℕ → Type 0 = λ z. Below (N z p) (G z p) in
                subst Q (sym e) (below_trans (below_same (N g p) (T p) (d.here p))
                (t.least (G g) (solves_reading I (inputs_of (bodies g) (only P G)) (G g) (bodies g).rows
                (given_part (bodies g) I M (only P G) uses
                (λ b c w. elim (cases_Bool (P b)) [
                  | inl y ↦ below_trans (old b c y) (below_same (G b c) (only P G b c) (only_in P G b c y))
                  | inr n ↦ emptied_below (M b c) (only P G b c) (was g pg b c w n)
                ]))
                (s g pg)) p)))
            | inr n ↦ below_trans (below_same (N f p) (M f p) (d.there f p n)) (old f p pf)
          ];
      ready = λ f R s p. elim (cases_eq f g) [
        | inl e ↦ (let P : ℕ → Type 0 = λ z. Solves (inputs_of (bodies z) N) R (bodies z).rows → Below (N z p) (R p) in
            subst P (sym e) (λ s. below_trans (below_same (N g p) (T p) (d.here p))
            (t.least R (solves_reading I (inputs_of (bodies g) N) R (bodies g).rows (given_part (bodies g) I M N uses (λ a b w. grow a b)) s) p)) s)
        | inr n ↦ below_trans (below_same (N f p) (M f p) (d.there f p n)) (u.ready f R (body_for_less (bodies f) M N R grow s) p)
      ];
    }

and_not : (a b : Bool) → a ≡ true → b ≡ false → (a && not b) ≡ true
and_not a b h k = rw (h, k) refl

and_not_parts : (a b : Bool) → (a && not b) ≡ true → (a ≡ true) × (b ≡ false)
and_not_parts true false h = (refl, refl)
and_not_parts true true h = absurd (cc)
and_not_parts false b h = absurd (cc)

only_less : (P R : ℕ → Bool) (G : Families) (f : ℕ) (p : Place) → Below (only (λ z. P z && not (R z)) G f p) (only P G f p)
only_less P R G f p = go (P f) (R f)
  where
    go : (a b : Bool) → Below (cond (a && not b) (G f p) empty) (cond a (G f p) empty)
    go true true = empty_below (G f p)
    go true false = below_refl (G f p)
    go false b = below_refl empty

pub edit_keeps : (old new : Bodies) (R : ℕ → Bool) (M N : Families) → Resets old new R M N → CoreFacts old M → CoreFacts new N
edit_keeps old new R M N r u = record {
  parts = λ P q G s g p pg. elim (cases_Bool (R g)) [
    | inl y ↦ emptied_below (N g p) (G g p) (r.emptied g p y)
    | inr n ↦
        (let Q : ℕ → Bool = λ z. P z && not (R z) in
        let part : IsPart old Q M = λ a qa f c w nf.
        let ab = and_not_parts (P a) (R a) qa in
        elim (cases_Bool (R f)) [
          | inl rf ↦ r.closed a ab.1 f c w rf
          | inr kept ↦ elim (cases_Bool (P f)) [
            | inl pf ↦ absurd (let both = and_not (P f) (R f) pf kept in cc)
            | inr out ↦ (let X : Body → Type 0 = λ b. Reads b f c in sym (r.stays f c kept) ∙ q a ab.0 f c (subst X (sym (r.bodies a ab.1)) w) out)
          ]
        ] in
        let solved : SolvesPart old Q G = λ a qa.
        let ab = and_not_parts (P a) (R a) qa in
        let X : Body → Type 0 = λ b. Solves (inputs_of b (only Q G)) (G a) b.rows in
        subst X (r.bodies a ab.1) (body_for_less (new a) (only Q G) (only P G) (G a) (only_less P R G) (s a ab.0)) in
        below_trans (below_same (N g p) (M g p) (r.stays g p n)) (u.parts Q part G solved g p (and_not (P g) (R g) pg n)))
  ];
  ready = λ g T s p. elim (cases_Bool (R g)) [
    | inl y ↦ emptied_below (N g p) (T p) (r.emptied g p y)
    | inr n ↦
        (let X : Body → Type 0 = λ b. Solves (inputs_of b N) T b.rows in
        below_trans (below_same (N g p) (M g p) (r.stays g p n)) (u.ready g T (body_reading (old g) M N T
        (λ f c w. elim (cases_Bool (R f)) [
          | inl rf ↦ emptied_below (M f c) (N f c) (r.closed g n f c w rf)
          | inr kept ↦ above_same (N f c) (M f c) (r.stays f c kept)
        ])
        (subst X (r.bodies g n) s)) p))
  ];
}

-- the trees are below every solution of all rows
pub facts_below : (bodies : Bodies) (M : Families) → CoreFacts bodies M → (G : Families) → SolvesAll bodies G → (g : ℕ) (p : Place) → Below (M g p) (G g p)
facts_below bodies M u G h g p = u.parts (λ _. true) (λ a pa f c w n. absurd (cc)) G (λ a pa. h a) g p refl

-- settled trees are the least solution
pub facts_settle : (bodies : Bodies) (M : Families) → CoreFacts bodies M → SolvesAll bodies M → IsLeastOfAll bodies M
facts_settle bodies M u s = record {
  solves = s;
  least = facts_below bodies M u;
}

-- no trees at the start
pub facts_start : (bodies : Bodies) (M : Families) → ((g : ℕ) (p : Place) → M g p ≡ empty) → CoreFacts bodies M
facts_start bodies M e = record {
  parts = λ P q G s g p pg. emptied_below (M g p) (G g p) (e g p);
  ready = λ g T s p. emptied_below (M g p) (T p) (e g p);
}

-- a task that is taken now
pub taken : (bodies : Bodies) (M : Families) (g : ℕ) → CoreFacts bodies M → TaskFacts bodies M g M
taken bodies M g u = record { uses = λ f p w. below_refl (M f p); under = u.ready g }

-- a result for another callable keeps the facts of a task
pub result_keeps_task : (bodies : Bodies) (M N J L : Families) (g h : ℕ) (T : Family) → TaskFacts bodies M h L → IsLeast (inputs_of (bodies h) L) (bodies h).rows T → Gives M N h T → (g ≡ h → ⊥) → TaskFacts bodies M g J → TaskFacts bodies N g J
result_keeps_task bodies M N J L g h T l t d n j =
    let grow = gives_grow M N h T d (l.under T t.solves) in
    record {
      uses = λ f p w. below_trans (j.uses f p w) (grow f p);
      under = λ S s p. below_trans (below_same (N g p) (M g p) (d.there g p n)) (j.under S s p);
    }

-- an edit that does not reset a task's callable keeps its facts
pub edit_keeps_task : (old new : Bodies) (R : ℕ → Bool) (M N J : Families) (g : ℕ) → Resets old new R M N → R g ≡ false → TaskFacts old M g J → TaskFacts new N g J
edit_keeps_task old new R M N J g r n j =
    let X : Body → Type 0 = λ b. (f : ℕ) (p : Place) → Reads b f p → Below (J f p) (N f p) in
    let Y : Body → Type 0 = λ b. (T : Family) → Solves (inputs_of b J) T b.rows → (p : Place) → Below (N g p) (T p) in
    record {
      uses = subst X (sym (r.bodies g n)) (λ f p w. below_trans (j.uses f p w) (elim (cases_Bool (R f)) [
        | inl rf ↦ emptied_below (M f p) (N f p) (r.closed g n f p w rf)
        | inr kept ↦ above_same (N f p) (M f p) (r.stays f p kept)
      ]));
      under = subst Y (sym (r.bodies g n)) (λ T s p. below_trans (below_same (N g p) (M g p) (r.stays g p n)) (j.under T s p));
    }

-- a callable whose rows are solved stays so at a result of another one, where no tree changes that it reads of that one
pub settled_stays : SettledStays
settled_stays bodies M N g f T d n same s =
    body_reading (bodies f) N M (N f)
    (λ h p w. elim (cases_eq h g) [
      | inl e ↦ (let P : ℕ → Type 0 = λ z. Reads (bodies f) z p → Below (N z p) (M z p) in subst P (sym e) (λ v. above_same (M g p) (N g p) (same p v)) w)
      | inr m ↦ below_same (N h p) (M h p) (d.there h p m)
    ])
    (solves_untouched (inputs_of (bodies f) M) (M f) (N f) (bodies f).rows (λ k w. d.there f (Node k) n) (λ p. above_same (N f p) (M f p) (d.there f p n)) s)

match_map : (o : Option Families) (P Q : Families → Type 0) → ((J : Families) → P J → Q J) → MatchOption o (Unit {0}) P → MatchOption o (Unit {0}) Q
match_map None P Q h m = tt
match_map (Some J) P Q h m = h J m

match_at : (o p : Option Families) (Q : Families → Type 0) → o ≡ p → MatchOption p (Unit {0}) Q → MatchOption o (Unit {0}) Q
match_at o p Q e m = let X : Option Families → Type 0 = λ z. MatchOption z (Unit {0}) Q in subst X (sym e) m

-- what every list of steps keeps
pub reached_facts : (bodies : Bodies) (M : Families) (out : Tasks) → Reached bodies M out → CoreFacts bodies M × TasksFacts bodies M out
reached_facts bodies M out (start e o) = (facts_start bodies M e, λ g. match_at (out g) None _ (o g) tt)
reached_facts bodies M out (take before g r o is others) =
    let u = reached_facts bodies M before r in (
      u.0,
      λ f. elim (cases_eq f g) [
        | inl e ↦ (let X : ℕ → Type 0 = λ z. MatchOption (out z) (Unit {0}) (TaskFacts bodies M z) in
            subst X (sym e) (match_at (out g) (Some M) (TaskFacts bodies M g) is (taken bodies M g u.0)))
        | inr n ↦ match_at (out f) (before f) _ (others f n) (u.1 f)
      ],
    )
reached_facts bodies N out (give M before g J T r was t d is others) =
    let u = reached_facts bodies M before r in
    let X : Option Families → Type 0 = λ z. MatchOption z (Unit {0}) (TaskFacts bodies M g) in
    let task : TaskFacts bodies M g J = subst X was (u.1 g) in (
      result_keeps bodies M N (inputs_of (bodies g) J) g T (less_of (bodies g) J M task.uses) (task.under T t.solves) t d u.0,
      λ f. elim (cases_eq f g) [
        | inl e ↦ match_at (out f) None _ (ap out e ∙ is) tt
        | inr n ↦ match_at (out f) (before f) _ (others f n)
            (match_map (before f) (TaskFacts bodies M f) (TaskFacts bodies N f) (λ L j. result_keeps_task bodies M N L J f g T task t d n j) (u.1 f))
      ],
    )
reached_facts bodies M out (back before g r is others) =
    let u = reached_facts bodies M before r in (
      u.0,
      λ f. elim (cases_eq f g) [
        | inl e ↦ match_at (out f) None _ (ap out e ∙ is) tt
        | inr n ↦ match_at (out f) (before f) _ (others f n) (u.1 f)
      ],
    )
reached_facts new N out (edit old R M before r e gone others) =
    let u = reached_facts old M before r in (
      edit_keeps old new R M N e u.0,
      λ f. elim (cases_Bool (R f)) [
        | inl y ↦ match_at (out f) None _ (gone f y) tt
        | inr n ↦ match_at (out f) (before f) _ (others f n)
            (match_map (before f) (TaskFacts old M f) (TaskFacts new N f) (λ L j. edit_keeps_task old new R M N L f e n j) (u.1 f))
      ],
    )

-- all that is reached is below every solution
pub reached_under : (bodies : Bodies) (M : Families) (out : Tasks) → Reached bodies M out → (G : Families) → SolvesAll bodies G → (g : ℕ) (p : Place) → Below (M g p) (G g p)
reached_under bodies M out r = facts_below bodies M (reached_facts bodies M out r).0

pub any_order_settles : AnyOrderSettles
any_order_settles bodies M out r s = facts_settle bodies M (reached_facts bodies M out r).0 s

pub models_settle : ModelsSettle
models_settle bodies Kept M T reads below least alike = record {
  solves = λ g. body_reading (bodies g) T M (T g) (λ f p w. above_same (M f p) (T f p) (alike f p (reads g f p w))) (least g).solves;
  least = λ G s g p. (least g).least (G g) (body_reading (bodies g) M G (G g) (λ f q w. below G s f q (reads g f q w)) (s g)) p;
}
