-- What rows give to the places that no row reads.
use Rattle.std.proofs.Common.{◌≡◌, ℕ, ◌+◌, ◌≤◌, ◌<◌, zero, suc, Bool, true, false, cond, List, [], ◌∷◌, ◌++◌, refl, ap, ◌∙◌, sym, subst, inl, inr, ◌⊎◌, arith, length, get_or, take, take_all}
use Rattle.std.specs.FinMap.{empty, entries}
use Rattle.std.proofs.Math.ListN.{set}
use Rattle.std.proofs.lemmas.List.{get_or-set_same, get_or-set_other, take_more}
use Rattle.std.proofs.lemmas.Bool.{cases_eq, cases_Bool}
use Rattle.rv_names.proofs.KeyLemmas.{bytes_equal-decides}
use Rattle.path_trees.specs.declared.steps.Step.{Step}
use Rattle.path_trees.specs.declared.steps.Step.TheVariants.{Attr, Key, Any, Keys}
use Rattle.path_trees.specs.declared.spots.Spot.{Spot}
use Rattle.path_trees.specs.declared.spots.Entry.{Entry}
use Rattle.path_trees.specs.Steps.{step_equal}
use Rattle.path_trees.specs.Trees.{TreeMap, Below, pairs_of}
use Rattle.path_trees.specs.Operations.{joined, applied}
use Rattle.path_trees.proofs.Finite.{below_refl, below_trans}
use Rattle.path_trees.proofs.TreeLaws.{join_first, join_second, join_least, join_empty}
use Rattle.rows.specs.declared.places.Place.{Place}
use Rattle.rows.specs.declared.places.Place.TheVariants.{Node, Result, Back, Put}
use Rattle.rows.specs.declared.inequalities.Right.{Right}
use Rattle.rows.specs.declared.inequalities.Row.{Row}
use Rattle.rows.specs.declared.inequalities.Row.TheVariants.{Into, Puts}
use Rattle.rows.specs.declared.solutions.PutTree.{PutTree}
use Rattle.rows.specs.Families.{Family, InputTrees, tree_at}
use Rattle.rows.specs.Rules.{join_of, leads_to_cell, put_entry, put_through}
use Rattle.rows.specs.Inequalities.{RightBelow, Holds, Solves, IsLeast, IsRight}
use Rattle.rows.specs.Reading.{row_at}
use Rattle.rows.specs.Working.{NodeHolds, Working}
use Rattle.rows.specs.Solutions.{one_put, put_at, family_of, Given}
use Rattle.rows.proofs.Joins.{empty_below, empty_join, join-assoc, join_of-append, pairs_of-append}
use Rattle.rows.proofs.Monotone.{right-mono, less_refl, put_through-mono}
use Rattle.rows.proofs.Turns.{solves_at, any_default}

-- equal trees are below each other
pub same_below : (t u : TreeMap) → t ≡ u → Below t u
same_below t u e = let P : TreeMap → Type 0 = λ z. Below t z in subst P e (below_refl t)

pub same_above : (t u : TreeMap) → t ≡ u → Below u t
same_above t u e = same_below u t (sym e)

-- a row of a place, whose tree is above the right side now, while each solution stays above all trees
given_into : (I : InputTrees) (r : Right) (p : Place) (F H : Family) (v : TreeMap) → IsRight I (λ n. F (Node n)) r v → ((n : ℕ) → H (Node n) ≡ F (Node n)) → ((q : Place) → Below (F q) (H q)) → Below v (H p)
    → ((G : Family) → Below v (G p) → ((q : Place) → Below (F q) (G q)) → (q : Place) → Below (H q) (G q)) → (RightBelow I (λ n. H (Node n)) r (H p) → Holds I H (Into p r)) → Given I (Into p r) F H
given_into I r p F H v is nodes grows over under holds = record {
  nodes = nodes;
  grows = grows;
  under = λ G h b q. under G (is.least (G p) (right-mono I I (λ n. F (Node n)) (λ n. G (Node n)) r (G p) (G p) (less_refl I) (λ n. b (Node n)) (below_refl (G p)) h)) b q;
  holds = λ w. right-mono I I (λ n. H (Node n)) (λ n. F (Node n)) r v (H p) (less_refl I) (λ n. same_below (H (Node n)) (F (Node n)) (nodes n)) over is.above;
}

pub given_result : (I : InputTrees) (r : Right) (N : List TreeMap) (t u v : TreeMap) (B : List TreeMap) (P : List PutTree) → IsRight I (tree_at N) r v → u ≡ joined t v → Given I (Into Result r) (family_of N t B P) (family_of N u B P)
given_result I r N t u v B P is e =
    let F : Family = family_of N t B P in
    let H : Family = family_of N u B P in
    given_into I r Result F H v is (λ n. refl)
    (λ q. grows q)
    (let Q : TreeMap → Type 0 = λ z. Below v z in subst Q (sym e) (join_second t v))
    (λ G h b q. under G h b q) (λ h. h)
  where
    grows : (q : Place) → Below (family_of N t B P q) (family_of N u B P q)
    grows (Node n) = below_refl (tree_at N n)
    grows Result = let Q : TreeMap → Type 0 = λ z. Below t z in subst Q (sym e) (join_first t v)
    grows (Back i) = below_refl (tree_at B i)
    grows (Put c) = below_refl (put_at P c)

    under : (G : Family) → Below v (G Result) → ((q : Place) → Below (family_of N t B P q) (G q)) → (q : Place) → Below (family_of N u B P q) (G q)
    under G h b (Node n) = b (Node n)
    under G h b Result = let Q : TreeMap → Type 0 = λ z. Below z (G Result) in subst Q (sym e) (join_least t v (G Result) (b Result) h)
    under G h b (Back i) = b (Back i)
    under G h b (Put c) = b (Put c)

-- a tree at one index is replaced, of trees that may have been more
at_back : (B C : List TreeMap) (i : ℕ) (u : TreeMap) → ((k : ℕ) → tree_at C k ≡ tree_at B k) → i < length C → (k : ℕ) → ((k ≡ i) × (tree_at (set C i u) k ≡ u)) ⊎ ((k ≡ i → ⊥) × (tree_at (set C i u) k ≡ tree_at B k))
at_back B C i u e l k = elim (cases_eq k i) [
  | inl q ↦ inl (q, (let P : ℕ → Type 0 = λ z. tree_at (set C i u) z ≡ u in subst P (sym q) (get_or-set_same C i u empty l)))
  | inr q ↦ inr (q, get_or-set_other C i k u empty q ∙ e k)
]

pub given_back : (I : InputTrees) (r : Right) (i : ℕ) (N : List TreeMap) (t u v : TreeMap) (B C : List TreeMap) (P : List PutTree) → IsRight I (tree_at N) r v → ((k : ℕ) → tree_at C k ≡ tree_at B k) → i < length C → u ≡ joined (tree_at C i) v
    → Given I (Into (Back i) r) (family_of N t B P) (family_of N t (set C i u) P)
given_back I r i N t u v B C P is same l e =
    given_into I r (Back i) (family_of N t B P) (family_of N t (set C i u) P) v is (λ n. refl) (λ q. grows q)
    (let Q : TreeMap → Type 0 = λ z. Below v z in subst Q (sym (get_or-set_same C i u empty l ∙ is_joined)) (join_second (tree_at B i) v))
    (λ G h b q. under G h b q) (λ h. h)
  where
    is_joined : u ≡ joined (tree_at B i) v
    is_joined = e ∙ ap (λ z. joined z v) (same i)

    grows_at : (k : ℕ) → ((k ≡ i) × (tree_at (set C i u) k ≡ u)) ⊎ ((k ≡ i → ⊥) × (tree_at (set C i u) k ≡ tree_at B k)) → Below (tree_at B k) (tree_at (set C i u) k)
    grows_at k (inl p) =
        let Q : TreeMap → Type 0 = λ z. Below (tree_at B k) z in
        let R : ℕ → Type 0 = λ z. Below (tree_at B z) (joined (tree_at B i) v) in
        subst Q (sym (p.1 ∙ is_joined)) (subst R (sym p.0) (join_first (tree_at B i) v))
    grows_at k (inr p) = same_above (tree_at (set C i u) k) (tree_at B k) p.1

    grows : (q : Place) → Below (family_of N t B P q) (family_of N t (set C i u) P q)
    grows (Node n) = below_refl (tree_at N n)
    grows Result = below_refl t
    grows (Back k) = grows_at k (at_back B C i u same l k)
    grows (Put c) = below_refl (put_at P c)

    under_at : (G : Family) → Below v (G (Back i)) → ((q : Place) → Below (family_of N t B P q) (G q)) → (k : ℕ) → ((k ≡ i) × (tree_at (set C i u) k ≡ u)) ⊎ ((k ≡ i → ⊥) × (tree_at (set C i u) k ≡ tree_at B k)) → Below (tree_at (set C i u) k) (G (Back k))
    under_at G h b k (inl p) =
        let Q : TreeMap → Type 0 = λ z. Below z (G (Back k)) in
        let R : ℕ → Type 0 = λ z. Below (joined (tree_at B i) v) (G (Back z)) in
        subst Q (sym (p.1 ∙ is_joined)) (subst R (sym p.0) (join_least (tree_at B i) v (G (Back i)) (b (Back i)) h))
    under_at G h b k (inr p) = below_trans (same_below (tree_at (set C i u) k) (tree_at B k) p.1) (b (Back k))

    under : (G : Family) → Below v (G (Back i)) → ((q : Place) → Below (family_of N t B P q) (G q)) → (q : Place) → Below (family_of N t (set C i u) P q) (G q)
    under G h b (Node n) = b (Node n)
    under G h b Result = b Result
    under G h b (Back k) = under_at G h b k (at_back B C i u same l k)
    under G h b (Put c) = b (Put c)

-- steps that are told to be equal are
pub step_exact : (a b : Step) → step_equal a b ≡ true → a ≡ b
step_exact (Attr a) (Attr b) h = ap Attr ((bytes_equal-decides a b).0 h)
step_exact (Attr a) (Key b) h = absurd (cc)
step_exact (Attr a) Any h = absurd (cc)
step_exact (Attr a) Keys h = absurd (cc)
step_exact (Key a) (Attr b) h = absurd (cc)
step_exact (Key a) (Key b) h = ap Key ((bytes_equal-decides a b).0 h)
step_exact (Key a) Any h = absurd (cc)
step_exact (Key a) Keys h = absurd (cc)
step_exact Any (Attr b) h = absurd (cc)
step_exact Any (Key b) h = absurd (cc)
step_exact Any Any h = refl
step_exact Any Keys h = absurd (cc)
step_exact Keys (Attr b) h = absurd (cc)
step_exact Keys (Key b) h = absurd (cc)
step_exact Keys Any h = absurd (cc)
step_exact Keys Keys h = refl

pub step_itself : (a : Step) → step_equal a a ≡ true
step_itself (Attr a) = (bytes_equal-decides a a).1 refl
step_itself (Key a) = (bytes_equal-decides a a).1 refl
step_itself Any = refl
step_itself Keys = refl

put_push : (P : List PutTree) (x : PutTree) (c : Step) → put_at (P ++ x ∷ []) c ≡ joined (put_at P c) (one_put x c)
put_push [] x c = sym (join_empty (one_put x c)) ∙ empty_join (one_put x c)
put_push (p ∷ P) x c = ap (joined (one_put p c)) (put_push P x c) ∙ sym (join-assoc (one_put p c) (put_at P c) (one_put x c))

pub given_put : (I : InputTrees) (r : Right) (N : List TreeMap) (t : TreeMap) (B : List TreeMap) (P Q : List PutTree) (x : PutTree) → IsRight I (tree_at N) r x.tree → Q ≡ P ++ x ∷ []
    → Given I (Into (Put x.cell) r) (family_of N t B P) (family_of N t B Q)
given_put I r N t B P Q x is e =
    given_into I r (Put x.cell) (family_of N t B P) (family_of N t B Q) x.tree is (λ n. refl) (λ q. grows q)
    (let S : TreeMap → Type 0 = λ z. Below x.tree z in
    subst S (sym (at x.cell)) (let R : Bool → Type 0 = λ b. Below x.tree (joined (put_at P x.cell) (cond b x.tree empty)) in subst R (sym (step_itself x.cell)) (join_second (put_at P x.cell) x.tree)))
    (λ G h b q. under G h b q) (λ h. h)
  where
    at : (c : Step) → put_at Q c ≡ joined (put_at P c) (one_put x c)
    at c = ap (λ z. put_at z c) e ∙ put_push P x c

    grows : (q : Place) → Below (family_of N t B P q) (family_of N t B Q q)
    grows (Node n) = below_refl (tree_at N n)
    grows Result = below_refl t
    grows (Back k) = below_refl (tree_at B k)
    grows (Put c) = let S : TreeMap → Type 0 = λ z. Below (put_at P c) z in subst S (sym (at c)) (join_first (put_at P c) (one_put x c))

    one_under : (G : Family) (c : Step) → Below x.tree (G (Put x.cell)) → (b : Bool) → step_equal x.cell c ≡ b → Below (cond b x.tree empty) (G (Put c))
    one_under G c h true y = let S : Step → Type 0 = λ z. Below x.tree (G (Put z)) in subst S (step_exact x.cell c y) h
    one_under G c h false y = empty_below (G (Put c))

    under : (G : Family) → Below x.tree (G (Put x.cell)) → ((q : Place) → Below (family_of N t B P q) (G q)) → (q : Place) → Below (family_of N t B Q q) (G q)
    under G h b (Node n) = b (Node n)
    under G h b Result = b Result
    under G h b (Back k) = b (Back k)
    under G h b (Put c) =
        let S : TreeMap → Type 0 = λ z. Below z (G (Put c)) in
        subst S (sym (at c)) (join_least (put_at P c) (one_put x c) (G (Put c)) (b (Put c)) (one_under G c h (step_equal x.cell c) refl))

pub given_outs : (I : InputTrees) (g i n : ℕ) (N : List TreeMap) (t : TreeMap) (B : List TreeMap) (P Q : List PutTree) → ((c : Step) → put_at Q c ≡ joined (put_at P c) (put_through c (tree_at N n) (I.of g (Back i))))
    → Given I (Puts g i n) (family_of N t B P) (family_of N t B Q)
given_outs I g i n N t B P Q at = record {
  nodes = λ k. refl;
  grows = λ q. grows q;
  under = λ G h b q. under G h b q;
  holds = λ w c. let S : TreeMap → Type 0 = λ z. Below (put_through c (tree_at N n) (I.of g (Back i))) z in subst S (sym (at c)) (join_second (put_at P c) (put_through c (tree_at N n) (I.of g (Back i))));
}
  where
    grows : (q : Place) → Below (family_of N t B P q) (family_of N t B Q q)
    grows (Node k) = below_refl (tree_at N k)
    grows Result = below_refl t
    grows (Back k) = below_refl (tree_at B k)
    grows (Put c) = let S : TreeMap → Type 0 = λ z. Below (put_at P c) z in subst S (sym (at c)) (join_first (put_at P c) (put_through c (tree_at N n) (I.of g (Back i))))

    under : (G : Family) → ((c : Step) → Below (put_through c (G (Node n)) (I.of g (Back i))) (G (Put c))) → ((q : Place) → Below (family_of N t B P q) (G q)) → (q : Place) → Below (family_of N t B Q q) (G q)
    under G h b (Node k) = b (Node k)
    under G h b Result = b Result
    under G h b (Back k) = b (Back k)
    under G h b (Put c) =
        let S : TreeMap → Type 0 = λ z. Below z (G (Put c)) in
        subst S (sym (at c)) (join_least (put_at P c) (put_through c (tree_at N n) (I.of g (Back i))) (G (Put c)) (b (Put c))
        (below_trans (put_through-mono c (tree_at N n) (G (Node n)) (I.of g (Back i)) (I.of g (Back i)) (b (Node n)) (below_refl (I.of g (Back i)))) (h c)))

-- a row of a node gives nothing
pub given_none : (I : InputTrees) (n : ℕ) (r : Right) (F : Family) → Given I (Into (Node n) r) F F
given_none I n r F = record { nodes = λ k. refl; grows = λ q. below_refl (F q); under = λ G h b q. b q; holds = λ h. h }

-- one out more
pub puts_more : (t : TreeMap) (P M Q : List PutTree) (es : List Entry) (i : ℕ) (e : Entry) (c : Step) → i < length es → e ≡ get_or es i e
    → put_at M c ≡ joined (put_at P c) (join_of (put_entry c t) (pairs_of (take i es))) → put_at Q c ≡ joined (put_at M c) (put_entry c t e.spot 0) → put_at Q c ≡ joined (put_at P c) (join_of (put_entry c t) (pairs_of (take (i + 1) es)))
puts_more t P M Q es i e c l is m q =
    let f : Spot → ℕ → TreeMap = put_entry c t in
    let more : take (i + 1) es ≡ take i es ++ e ∷ [] = take_more es i e l ∙ ap (λ z. take i es ++ z ∷ []) (sym is) in
    q ∙ ap (λ z. joined z (f e.spot 0)) m ∙ join-assoc (put_at P c) (join_of f (pairs_of (take i es))) (f e.spot 0)
    ∙ ap (joined (put_at P c))
    (ap (joined (join_of f (pairs_of (take i es)))) (join_empty (f e.spot 0))
    ∙ sym (join_of-append f (pairs_of (take i es)) (pairs_of (e ∷ [])))
    ∙ ap (join_of f) (sym (pairs_of-append (take i es) (e ∷ [])))
    ∙ ap (λ z. join_of f (pairs_of z)) (sym more))

pub puts_none : (t : TreeMap) (P : List PutTree) (c : Step) → put_at P c ≡ joined (put_at P c) (join_of (put_entry c t) (pairs_of []))
puts_none t P c = join_empty (put_at P c)

pub put_more : (P Q : List PutTree) (x : PutTree) (c : Step) (u : TreeMap) → Q ≡ P ++ x ∷ [] → one_put x c ≡ u → put_at Q c ≡ joined (put_at P c) u
put_more P Q x c u e p = ap (λ z. put_at z c) e ∙ put_push P x c ∙ ap (joined (put_at P c)) p

-- an entry that is no out to a cell puts nothing
pub put_idle : (P : List PutTree) (t : TreeMap) (s : Spot) → ((c : Step) → leads_to_cell c s.mark ≡ false) → (c : Step) → put_at P c ≡ joined (put_at P c) (put_entry c t s 0)
put_idle P t s h c = join_empty (put_at P c) ∙ ap (λ b. joined (put_at P c) (cond b (applied t s.path s.mark) empty)) (sym (h c))

pub put_made : (P Q : List PutTree) (x : PutTree) (t : TreeMap) (s : Spot) (cell : Step) → Q ≡ P ++ x ∷ [] → x.cell ≡ cell → x.tree ≡ applied t s.path s.mark → ((c : Step) → leads_to_cell c s.mark ≡ step_equal cell c) → (c : Step) → put_at Q c ≡ joined (put_at P c) (put_entry c t s 0)
put_made P Q x t s cell e p q r c =
    put_more P Q x c (put_entry c t s 0) e
    (ap (λ z. cond (step_equal z c) x.tree empty) p ∙ ap (λ z. cond (step_equal cell c) z empty) q ∙ ap (λ b. cond b (applied t s.path s.mark) empty) (sym (r c)))

-- a row that holds still does where the nodes stay and the other trees grow
holds_grown : (I : InputTrees) (F H : Family) (r : Row) → ((n : ℕ) → H (Node n) ≡ F (Node n)) → ((p : Place) → Below (F p) (H p)) → Holds I F r → Holds I H r
holds_grown I F H (Into p r) e b h = right-mono I I (λ n. H (Node n)) (λ n. F (Node n)) r (F p) (H p) (less_refl I) (λ n. same_below (H (Node n)) (F (Node n)) (e n)) (b p) h
holds_grown I F H (Puts g i n) e b h = λ c.
    below_trans (put_through-mono c (H (Node n)) (F (Node n)) (I.of g (Back i)) (I.of g (Back i)) (same_below (H (Node n)) (F (Node n)) (e n)) (below_refl (I.of g (Back i)))) (below_trans (h c) (b (Put c)))

solves_grown : (I : InputTrees) (F H : Family) (rows : List Row) → ((n : ℕ) → H (Node n) ≡ F (Node n)) → ((p : Place) → Below (F p) (H p)) → Solves I F rows → Solves I H rows
solves_grown I F H [] e b s = tt
solves_grown I F H (r ∷ rows) e b s = (holds_grown I F H r e b s.0, solves_grown I F H rows e b s.1)

solves_push : (I : InputTrees) (F : Family) (rows : List Row) (r : Row) → Solves I F rows → Holds I F r → Solves I F (rows ++ r ∷ [])
solves_push I F [] r s h = (h, tt)
solves_push I F (x ∷ rows) r s h = (s.0, solves_push I F rows r s.1 h)

node_holds_same : (I : InputTrees) (N M : ℕ → TreeMap) (r : Row) → ((n : ℕ) → M n ≡ N n) → NodeHolds I N r → NodeHolds I M r
node_holds_same I N M (Into (Node n) r) e h = right-mono I I M N r (N n) (M n) (less_refl I) (λ k. same_below (M k) (N k) (e k)) (same_above (M n) (N n) (e n)) h
node_holds_same I N M (Into Result r) e h = h
node_holds_same I N M (Into (Back i) r) e h = h
node_holds_same I N M (Into (Put c) r) e h = h
node_holds_same I N M (Puts g i n) e h = h

-- the rows up to an index are solved, and all trees are below each solution
pub record Giving (I : InputTrees) (rows : List Row) (N : List TreeMap) (F : Family) (i : ℕ) : Type 0 where
  pub nodes : (n : ℕ) → F (Node n) ≡ tree_at N n
  pub under : (G : Family) → Solves I G rows → (p : Place) → Below (F p) (G p)
  pub solved : Solves I F (take i rows)

pub giving_none : (I : InputTrees) (rows : List Row) (N : List TreeMap) → Working I rows N [] → Giving I rows N (family_of N empty [] []) 0
giving_none I rows N w = record { nodes = λ n. refl; under = λ G s p. under G s p; solved = tt }
  where
    under : (G : Family) → Solves I G rows → (p : Place) → Below (family_of N empty [] [] p) (G p)
    under G s (Node n) = w.under G s n
    under G s Result = empty_below (G Result)
    under G s (Back i) = empty_below (G (Back i))
    under G s (Put c) = empty_below (G (Put c))

pub giving_more : (I : InputTrees) (rows : List Row) (N : List TreeMap) (F H : Family) (i : ℕ) (r : Row) → i < length rows → r ≡ get_or rows i r → Working I rows N [] → Given I r F H → Giving I rows N F i → Giving I rows N H (i + 1)
giving_more I rows N F H i r l is w g v =
    let at : row_at rows i ≡ r = sym (any_default rows i r l) ∙ sym is in
    let more : take (i + 1) rows ≡ take i rows ++ r ∷ [] = take_more rows i r l ∙ ap (λ z. take i rows ++ z ∷ []) (sym is) in
    let node_holds : NodeHolds I (tree_at N) r = elim (w.done i l) [
      | inl c ↦ absurd (let k = c.1 in omega arith)
      | inr h ↦ (let P : Row → Type 0 = NodeHolds I (tree_at N) in subst P at h)
    ] in
    record {
      nodes = λ n. g.nodes n ∙ v.nodes n;
      under = λ G s p. g.under G (let P : Row → Type 0 = Holds I G in subst P at (solves_at I G rows i l s)) (v.under G s) p;
      solved = let P : List Row → Type 0 = Solves I H in
          subst P (sym more) (solves_push I H (take i rows) r (solves_grown I F H (take i rows) g.nodes g.grows v.solved) (g.holds (node_holds_same I (tree_at N) (λ n. F (Node n)) r v.nodes node_holds)));
    }

pub giving_all : (I : InputTrees) (rows : List Row) (N : List TreeMap) (F : Family) (i : ℕ) → length rows ≤ i → Giving I rows N F i → IsLeast I rows F
giving_all I rows N F i l v = record {
  solves = let P : List Row → Type 0 = Solves I F in subst P (take_all i rows l) v.solved;
  least = v.under;
}

-- an empty tree more changes no tree
pub tree_push : (ts : List TreeMap) (k : ℕ) → tree_at (ts ++ empty ∷ []) k ≡ tree_at ts k
tree_push [] zero = refl
tree_push [] (suc k) = refl
tree_push (t ∷ ts) zero = refl
tree_push (t ∷ ts) (suc k) = tree_push ts k

pub giving_start : (I : InputTrees) (rows : List Row) (N : List TreeMap) (t : TreeMap) (B : List TreeMap) (P : List PutTree) → t ≡ empty → B ≡ [] → P ≡ [] → Working I rows N [] → Giving I rows N (family_of N t B P) 0
giving_start I rows N t B P e f g w =
    let X : TreeMap → Type 0 = λ z. Giving I rows N (family_of N z B P) 0 in
    let Y : List TreeMap → Type 0 = λ z. Giving I rows N (family_of N empty z P) 0 in
    let Z : List PutTree → Type 0 = λ z. Giving I rows N (family_of N empty [] z) 0 in
    subst X (sym e) (subst Y (sym f) (subst Z (sym g) (giving_none I rows N w)))
