-- The join of puts, and when puts are below others.
use Rattle.std.proofs.Common.{◌≡◌, Bool, true, false, cond, List, [], ◌∷◌, ◌++◌, map, Option, Some, None, refl, ap, ◌∙◌, sym, subst, inl, inr, ◌⊎◌, ◌&&◌, ◌==◌}
use Rattle.std.specs.Prelude.{T}
use Rattle.std.specs.Ordering.{is_eq, is_lt, eq_by_cmp}
use Rattle.std.specs.declared.cmp.Ordering.{Ordering}
use Rattle.std.specs.declared.cmp.Ordering.TheVariants.{Less, Equal, Greater}
use Rattle.std.specs.FinMap.{empty, entries, entries_sorted, find, get, get-empty, get-entries, get-from_entries, insert, is_sorted, len}
use Rattle.std.specs.FinMap.Entries.{below_all}
use Rattle.path_trees.specs.declared.steps.Step.{Step}
use Rattle.path_trees.specs.Steps.{step_order}
use Rattle.path_trees.specs.StepLaws.{step_order-total}
use Rattle.path_trees.specs.Trees.{Below, TreeMap}
use Rattle.path_trees.specs.Operations.{joined}
use Rattle.path_trees.proofs.Finite.{below_trans, which}
use Rattle.path_trees.proofs.TreeLaws.{join_below, join_empty, join_first, join_second, join_least, join_swap}
use Rattle.taint_model.specs.Puts.{HasNoEmptyTree, PutMap, PutsBelow, joined_puts, tree_at, tree_of, with_put}
use Rattle.taint_model.proofs.TreeFacts.{empty_of_test, below_of, empty_below, empty_join, test_of_empty, join_is_empty}
use Rattle.taint_model.proofs.PutFacts.{apart_ties, held_empty, inserted, one_or_other, put_here, put_there, puts_same, puts_trans, some_is, tied, tied_same}

-- the tree that a list has for a cell
abbrev pub listed_at : List (Step × TreeMap) → Step → TreeMap
listed_at es c = tree_of (find step_order c es)

pub at_entries : (p : PutMap) (c : Step) → tree_at p c ≡ listed_at (entries p) c
at_entries p c = ap tree_of (get-entries p c)

pub listed_first : (e : Step × TreeMap) (es : List (Step × TreeMap)) → listed_at (e ∷ es) e.0 ≡ e.1
listed_first e es = ap (λ (b : Bool). tree_of (cond b (Some e.1) (find step_order e.0 es))) (tied_same e.0)

pub listed_later : (c : Step) (e : Step × TreeMap) (es : List (Step × TreeMap)) → ¬ (c ≡ e.0) → listed_at (e ∷ es) c ≡ listed_at es c
listed_later c e es n = ap (λ (b : Bool). tree_of (cond b (Some e.1) (find step_order c es))) (apart_ties c e.0 n)

first_of : (a b : Bool) → T (a && b) → T a
first_of true b p = tt
first_of false b p = p

second_of : (a b : Bool) → T (a && b) → T b
second_of true b p = p
second_of false b p = absurd p

not_tied : (o : Ordering) → T (is_lt o) → is_eq o ≡ false
not_tied Less p = refl
not_tied Equal p = absurd p
not_tied Greater p = absurd p

-- a cell before all of a list is not in it
find_before : (c : Step) (es : List (Step × TreeMap)) → T (below_all step_order c es) → find step_order c es ≡ None
find_before c [] h = refl
find_before c (e ∷ es) h = ap (λ (b : Bool). cond b (Some e.1) (find step_order c es)) (not_tied _ (first_of _ _ h)) ∙ find_before c es (second_of _ _ h)

-- nor is the first one of a list in order in what comes after
pub listed_before : (e : Step × TreeMap) (es : List (Step × TreeMap)) → T (is_sorted step_order (e ∷ es)) → listed_at es e.0 ≡ empty
listed_before e es r = ap tree_of (find_before e.0 es (first_of _ _ r))

pub sorted_rest : (e : Step × TreeMap) (es : List (Step × TreeMap)) → T (is_sorted step_order (e ∷ es)) → T (is_sorted step_order es)
sorted_rest e es r = second_of _ _ r

-- each tree of a list is below that of its cell
abbrev pub Covers : List (Step × TreeMap) → PutMap → Type 0
Covers [] q = Unit {0}
Covers (e ∷ es) q = Below e.1 (tree_at q e.0) × Covers es q

covers_at : (es : List (Step × TreeMap)) (q : PutMap) → Covers es q → (c : Step) → Below (listed_at es c) (tree_at q c)
covers_at [] q h c = empty_below (tree_at q c)
covers_at (e ∷ es) q h c = go (covers_at es q h.1 c) (one_or_other c e.0)
  where
    go : Below (listed_at es c) (tree_at q c) → (c ≡ e.0) ⊎ ¬ (c ≡ e.0) → Below (listed_at (e ∷ es) c) (tree_at q c)
    go more (inl s) = subst (λ (z : Step). Below (listed_at (e ∷ es) z) (tree_at q z)) (sym s) (below_trans (below_of (listed_first e es)) h.0)
    go more (inr n) = below_trans (below_of (listed_later c e es n)) more

at_covers : (es : List (Step × TreeMap)) (q : PutMap) → T (is_sorted step_order es) → ((c : Step) → Below (listed_at es c) (tree_at q c)) → Covers es q
at_covers [] q r h = tt
at_covers (e ∷ es) q r h = (below_trans (below_of (sym (listed_first e es))) (h e.0), at_covers es q (second_of _ _ r) (λ c. rest c (one_or_other c e.0)))
  where
    rest : (c : Step) → (c ≡ e.0) ⊎ ¬ (c ≡ e.0) → Below (listed_at es c) (tree_at q c)
    rest c (inl s) =
        let none : find step_order c es ≡ None = ap (λ (z : Step). find step_order z es) s ∙ find_before e.0 es (first_of _ _ r) in
        below_trans (below_of (ap tree_of none)) (empty_below (tree_at q c))
    rest c (inr n) = below_trans (below_of (sym (listed_later c e es n))) (h c)

-- puts are below others where each of their trees is
pub covers_below : (p q : PutMap) → Covers (entries p) q → PutsBelow p q
covers_below p q h = record { at = λ c. below_trans (below_of (at_entries p c)) (covers_at (entries p) q h c) }

pub below_covers : (p q : PutMap) → PutsBelow p q → Covers (entries p) q
below_covers p q h = at_covers (entries p) q (entries_sorted p) (λ c. below_trans (below_of (sym (at_entries p c))) (h.at c))

-- the trees of a list, put one after the other
abbrev pub put_all : List (Step × TreeMap) → PutMap → PutMap
put_all [] p = p
put_all (e ∷ es) p = put_all es (with_put p e.0 e.1)

at_put_all : (es : List (Step × TreeMap)) (p : PutMap) → T (is_sorted step_order es) → (c : Step) → tree_at (put_all es p) c ≡ joined (tree_at p c) (listed_at es c)
at_put_all [] p r c = join_empty (tree_at p c)
at_put_all (e ∷ es) p r c = at_put_all es (with_put p e.0 e.1) (second_of _ _ r) c ∙ go (one_or_other c e.0)
  where
    here : joined (tree_at (with_put p e.0 e.1) e.0) (listed_at es e.0) ≡ joined (tree_at p e.0) (listed_at (e ∷ es) e.0)
    here =
        ap (λ z. joined z (listed_at es e.0)) (put_here p e.0 e.1)
        ∙ ap (λ z. joined (joined (tree_at p e.0) e.1) (tree_of z)) (find_before e.0 es (first_of _ _ r))
        ∙ sym (join_empty (joined (tree_at p e.0) e.1))
        ∙ ap (joined (tree_at p e.0)) (sym (listed_first e es))

    go : (c ≡ e.0) ⊎ ¬ (c ≡ e.0) → joined (tree_at (with_put p e.0 e.1) c) (listed_at es c) ≡ joined (tree_at p c) (listed_at (e ∷ es) c)
    go (inl s) = subst (λ (z : Step). joined (tree_at (with_put p e.0 e.1) z) (listed_at es z) ≡ joined (tree_at p z) (listed_at (e ∷ es) z)) (sym s) here
    go (inr n) = ap (λ z. joined z (listed_at es c)) (put_there p e.0 e.1 c n) ∙ ap (joined (tree_at p c)) (sym (listed_later c e es n))

pub some_put : (p : PutMap) (c : Step) (t : TreeMap) → HasNoEmptyTree p → HasNoEmptyTree (with_put p c t)
some_put p c t h = go (which (len t == 0))
  where
    go : ((len t == 0) ≡ true) ⊎ ((len t == 0) ≡ false) → HasNoEmptyTree (with_put p c t)
    go (inl b) = subst (λ (b : Bool). HasNoEmptyTree (cond b p (insert p c (joined (tree_at p c) t)))) (sym b) h
    go (inr b) =
        subst (λ (b : Bool). HasNoEmptyTree (cond b p (insert p c (joined (tree_at p c) t)))) (sym b)
        (record { at = inserted p c (joined (tree_at p c) t) (λ _ v. ¬ (v ≡ empty)) (λ e. let f = test_of_empty t (join_is_empty (tree_at p c) t e) in cc) h.at })

some_put_all : (es : List (Step × TreeMap)) (p : PutMap) → HasNoEmptyTree p → HasNoEmptyTree (put_all es p)
some_put_all [] p h = h
some_put_all (e ∷ es) p h = some_put_all es (with_put p e.0 e.1) (some_put p e.0 e.1 h)

-- a value in place of one that may be there
abbrev made : Option TreeMap → TreeMap → Option TreeMap
made None u = None
made (Some t) u = Some u

-- the one that may be there, or else the other
abbrev either : Option TreeMap → Option TreeMap → Option TreeMap
either None o = o
either (Some t) o = Some t

find_made : (g : Step → TreeMap) (es : List (Step × TreeMap)) (c : Step) → find step_order c (map (λ (e : Step × TreeMap). (e.0, g e.0)) es) ≡ made (find step_order c es) (g c)
find_made g [] c = refl
find_made g (e ∷ es) c = go (find_made g es c) (which (eq_by_cmp step_order c e.0))
  where
    go : find step_order c (map (λ (e : Step × TreeMap). (e.0, g e.0)) es) ≡ made (find step_order c es) (g c) → (eq_by_cmp step_order c e.0 ≡ true) ⊎ (eq_by_cmp step_order c e.0 ≡ false) → cond (eq_by_cmp step_order c e.0) (Some (g e.0)) (find step_order c (map (λ (e : Step × TreeMap). (e.0, g e.0)) es)) ≡ made (cond (eq_by_cmp step_order c e.0) (Some e.1) (find step_order c es)) (g c)
    go more (inl b) =
        subst (λ (b : Bool). cond b (Some (g e.0)) (find step_order c (map (λ (e : Step × TreeMap). (e.0, g e.0)) es)) ≡ made (cond b (Some e.1) (find step_order c es)) (g c)) (sym b)
        (ap (λ (z : Step). Some (g z)) (sym (tied c e.0 b)))
    go more (inr b) = subst (λ (b : Bool). cond b (Some (g e.0)) (find step_order c (map (λ (e : Step × TreeMap). (e.0, g e.0)) es)) ≡ made (cond b (Some e.1) (find step_order c es)) (g c)) (sym b) more

find_both : (xs ys : List (Step × TreeMap)) (c : Step) → find step_order c (xs ++ ys) ≡ either (find step_order c xs) (find step_order c ys)
find_both [] ys c = refl
find_both (e ∷ es) ys c = go (find_both es ys c) (eq_by_cmp step_order c e.0)
  where
    go : find step_order c (es ++ ys) ≡ either (find step_order c es) (find step_order c ys) → (b : Bool) → cond b (Some e.1) (find step_order c (es ++ ys)) ≡ either (cond b (Some e.1) (find step_order c es)) (find step_order c ys)
    go more true = refl
    go more false = more

-- what is found in joined puts
get_joined : (p q : PutMap) (c : Step) → get (joined_puts p q) c ≡ made (either (get p c) (get q c)) (joined (tree_at p c) (tree_at q c))
get_joined p q c =
    get-from_entries step_order-total (map (λ (e : Step × TreeMap). (e.0, joined (tree_at p e.0) (tree_at q e.0))) (entries p ++ entries q)) c
    ∙ find_made (λ d. joined (tree_at p d) (tree_at q d)) (entries p ++ entries q) c
    ∙ ap (λ o. made o (joined (tree_at p c) (tree_at q c))) (find_both (entries p) (entries q) c ∙ ap (λ o. either o (find step_order c (entries q))) (sym (get-entries p c)) ∙ ap (either (get p c)) (sym (get-entries q c)))

tree_of_made : (o r : Option TreeMap) → tree_of (made (either o r) (joined (tree_of o) (tree_of r))) ≡ joined (tree_of o) (tree_of r)
tree_of_made None None = join_empty empty
tree_of_made None (Some u) = refl
tree_of_made (Some t) r = refl

-- each cell of joined puts has the join of its trees
pub at_joined : (p q : PutMap) (c : Step) → tree_at (joined_puts p q) c ≡ joined (tree_at p c) (tree_at q c)
at_joined p q c = ap tree_of (get_joined p q c) ∙ tree_of_made (get p c) (get q c)

some_made : (o r : Option TreeMap) → ((t : TreeMap) → o ≡ Some t → ¬ (t ≡ empty)) → ((t : TreeMap) → r ≡ Some t → ¬ (t ≡ empty)) → (t : TreeMap) → made (either o r) (joined (tree_of o) (tree_of r)) ≡ Some t → ¬ (t ≡ empty)
some_made None None h k t e n = absurd (cc)
some_made None (Some u) h k t e n = k u refl (join_is_empty empty u (some_is _ _ e ∙ n))
some_made (Some u) r h k t e n = h u refl (join_is_empty (tree_of r) u (join_swap (tree_of r) u ∙ some_is _ _ e ∙ n))

pub some_joined : (p q : PutMap) → HasNoEmptyTree p → HasNoEmptyTree q → HasNoEmptyTree (joined_puts p q)
some_joined p q h k = record { at = λ c t e. some_made (get p c) (get q c) (h.at c) (k.at c) t (sym (get_joined p q c) ∙ e) }

-- puts with those of others put to them are the join of both
pub put_all_joins : (p q : PutMap) → HasNoEmptyTree p → HasNoEmptyTree q → put_all (entries q) p ≡ joined_puts p q
put_all_joins p q h k =
    puts_same (put_all (entries q) p) (joined_puts p q) (some_put_all (entries q) p h) (some_joined p q h k)
    (λ c. at_put_all (entries q) p (entries_sorted q) c ∙ ap (joined (tree_at p c)) (sym (at_entries q c)) ∙ sym (at_joined p q c))

-- the join of puts is the least upper bound
pub puts_join_first : (p q : PutMap) → PutsBelow p (joined_puts p q)
puts_join_first p q = record { at = λ c. below_trans (join_first (tree_at p c) (tree_at q c)) (below_of (sym (at_joined p q c))) }

pub puts_join_second : (p q : PutMap) → PutsBelow q (joined_puts p q)
puts_join_second p q = record { at = λ c. below_trans (join_second (tree_at p c) (tree_at q c)) (below_of (sym (at_joined p q c))) }

pub puts_join_least : (p q r : PutMap) → PutsBelow p r → PutsBelow q r → PutsBelow (joined_puts p q) r
puts_join_least p q r h k = record { at = λ c. below_trans (below_of (at_joined p q c)) (join_least (tree_at p c) (tree_at q c) (tree_at r c) (h.at c) (k.at c)) }

-- a put is the least that is above what was there and has the tree at the cell
pub put_above : (p : PutMap) (c : Step) (t : TreeMap) → PutsBelow p (with_put p c t)
put_above p c t = record { at = λ d. go d (one_or_other d c) }
  where
    go : (d : Step) → (d ≡ c) ⊎ ¬ (d ≡ c) → Below (tree_at p d) (tree_at (with_put p c t) d)
    go d (inl e) = subst (λ (z : Step). Below (tree_at p z) (tree_at (with_put p c t) z)) (sym e) (below_trans (join_first (tree_at p c) t) (below_of (sym (put_here p c t))))
    go d (inr n) = below_of (sym (put_there p c t d n))

pub put_stands : (p : PutMap) (c : Step) (t : TreeMap) → Below t (tree_at (with_put p c t) c)
put_stands p c t = below_trans (join_second (tree_at p c) t) (below_of (sym (put_here p c t)))

pub put_least : (p q : PutMap) (c : Step) (t : TreeMap) → PutsBelow p q → Below t (tree_at q c) → PutsBelow (with_put p c t) q
put_least p q c t h k = record { at = λ d. go d (one_or_other d c) }
  where
    go : (d : Step) → (d ≡ c) ⊎ ¬ (d ≡ c) → Below (tree_at (with_put p c t) d) (tree_at q d)
    go d (inl e) = subst (λ (z : Step). Below (tree_at (with_put p c t) z) (tree_at q z)) (sym e) (below_trans (below_of (put_here p c t)) (join_least (tree_at p c) t (tree_at q c) (h.at c) k))
    go d (inr n) = below_trans (below_of (put_there p c t d n)) (h.at d)

pub put-mono : (p q : PutMap) (c : Step) (t u : TreeMap) → PutsBelow p q → Below t u → PutsBelow (with_put p c t) (with_put q c u)
put-mono p q c t u h k = put_least p (with_put q c u) c t (puts_trans h (put_above q c u)) (below_trans k (put_stands q c u))

-- a put of what stands there changes nothing
pub put_below : (p : PutMap) (c : Step) (t : TreeMap) → HasNoEmptyTree p → Below t (tree_at p c) → p ≡ with_put p c t
put_below p c t h k = puts_same p (with_put p c t) h (some_put p c t h) (λ d. go d (one_or_other d c))
  where
    go : (d : Step) → (d ≡ c) ⊎ ¬ (d ≡ c) → tree_at p d ≡ tree_at (with_put p c t) d
    go d (inl e) = subst (λ (z : Step). tree_at p z ≡ tree_at (with_put p c t) z) (sym e) (join_below (tree_at p c) t k ∙ sym (put_here p c t))
    go d (inr n) = sym (put_there p c t d n)

-- a tree with entries gives the cell a tree
pub put_some : (p : PutMap) (c : Step) (t : TreeMap) → ¬ (t ≡ empty) → with_put p c t ≡ insert p c (joined (tree_at p c) t)
put_some p c t n = go (which (len t == 0))
  where
    go : ((len t == 0) ≡ true) ⊎ ((len t == 0) ≡ false) → with_put p c t ≡ insert p c (joined (tree_at p c) t)
    go (inl b) = absurd (n (empty_of_test t b))
    go (inr b) = ap (λ (b : Bool). cond b p (insert p c (joined (tree_at p c) t))) b

pub at_empty : (c : Step) → tree_at empty c ≡ empty
at_empty c = ap tree_of (get-empty {X = TreeMap} step_order c)

some_empty : HasNoEmptyTree empty
some_empty = held_empty.some

-- joined to no cells, puts are what they were
pub join_puts_empty : (p : PutMap) → HasNoEmptyTree p → joined_puts empty p ≡ p
join_puts_empty p h =
    puts_same (joined_puts empty p) p (some_joined empty p some_empty h) h (λ c. at_joined empty p c ∙ ap (λ z. joined z (tree_at p c)) (at_empty c) ∙ empty_join (tree_at p c))

pub covers_iff : (es : List (Step × TreeMap)) (p q : PutMap) → es ≡ entries p → (Covers es q → PutsBelow p q) × (PutsBelow p q → Covers es q)
covers_iff es p q e = (λ h. covers_below p q (subst (λ (z : List (Step × TreeMap)). Covers z q) e h), λ h. subst (λ (z : List (Step × TreeMap)). Covers z q) (sym e) (below_covers p q h))
