-- Puts as lists of cells in order, and what is found at a cell.
use Rattle.std.proofs.Common.{◌≡◌, Bool, true, false, cond, List, [], ◌∷◌, Option, Some, None, refl, ap, ◌∙◌, sym, subst, inl, inr, ◌⊎◌, ◌==◌, arith, length}
use Rattle.std.specs.Prelude.{T}
use Rattle.std.specs.Ordering.{is_eq, eq_by_cmp, match_ordering}
use Rattle.std.specs.Map.{lookup}
use Rattle.std.specs.BTreeMap.{insert_entry, is_at}
use Rattle.std.specs.declared.cmp.Ordering.{Ordering}
use Rattle.std.specs.declared.cmp.Ordering.TheVariants.{Less, Equal, Greater}
use Rattle.std.specs.Cmp.{tied_itself}
use Rattle.std.specs.FinMap.{empty, entries, find, from_sorted, get, get-empty, get-from_sorted, get-insert, insert, is_sorted, len, len-empty, len-entries, put, same_map, same_entries_map, entries-insert, entries-from_sorted}
use Rattle.std.specs.FinMap.Entries.{by_order, is_sorted-put}
use Rattle.path_trees.specs.declared.steps.Step.{Step}
use Rattle.path_trees.specs.Steps.{IsHeldStep, step_order}
use Rattle.path_trees.specs.StepLaws.{step_order-exact, step_order-total}
use Rattle.path_trees.specs.Trees.{IsHeldTree, TreeMap}
use Rattle.path_trees.specs.Operations.{joined}
use Rattle.path_trees.proofs.Finite.{below_antisymm, below_refl, below_trans, which}
use Rattle.path_trees.proofs.TreeLaws.{join_empty}
use Rattle.taint_model.specs.Puts.{ArePutsHeld, HasNoEmptyTree, IsPuts, PutMap, PutsBelow, tree_at, tree_of, with_put}
use Rattle.taint_model.proofs.TreeFacts.{empty_of_test}

-- cells that tie are one
pub tied : (a b : Step) → eq_by_cmp step_order a b ≡ true → a ≡ b
tied a b h = step_order-exact a b (go (step_order a b) h)
  where
    go : (r : Ordering) → is_eq r ≡ true → r ≡ Equal
    go Less h = absurd (cc)
    go Equal h = refl
    go Greater h = absurd (cc)

pub tied_same : (a : Step) → eq_by_cmp step_order a a ≡ true
tied_same a = ap is_eq (tied_itself step_order-total a)

pub apart_ties : (a b : Step) → ¬ (a ≡ b) → eq_by_cmp step_order a b ≡ false
apart_ties a b n = go (which (eq_by_cmp step_order a b))
  where
    go : (eq_by_cmp step_order a b ≡ true) ⊎ (eq_by_cmp step_order a b ≡ false) → eq_by_cmp step_order a b ≡ false
    go (inl p) = absurd (n (tied a b p))
    go (inr p) = p

-- what is found after an insert
pub get_here : (p : PutMap) (c : Step) (t : TreeMap) → get (insert p c t) c ≡ Some t
get_here p c t = get-insert step_order-total p c t c ∙ ap (λ (b : Bool). cond b (Some t) (get p c)) (tied_same c)

pub get_there : (p : PutMap) (c : Step) (t : TreeMap) (d : Step) → ¬ (d ≡ c) → get (insert p c t) d ≡ get p d
get_there p c t d n = get-insert step_order-total p c t d ∙ ap (λ (b : Bool). cond b (Some t) (get p d)) (apart_ties d c n)

-- what stands at a cell once a tree is put there
pub put_here : (p : PutMap) (c : Step) (t : TreeMap) → tree_at (with_put p c t) c ≡ joined (tree_at p c) t
put_here p c t = go (which (len t == 0))
  where
    go : ((len t == 0) ≡ true) ⊎ ((len t == 0) ≡ false) → tree_at (with_put p c t) c ≡ joined (tree_at p c) t
    go (inl h) =
        ap (λ (b : Bool). tree_at (cond b p (insert p c (joined (tree_at p c) t))) c) h
        ∙ join_empty (tree_at p c)
        ∙ ap (joined (tree_at p c)) (sym (empty_of_test t h))
    go (inr h) = ap (λ (b : Bool). tree_at (cond b p (insert p c (joined (tree_at p c) t))) c) h ∙ ap tree_of (get_here p c (joined (tree_at p c) t))

pub put_there : (p : PutMap) (c : Step) (t : TreeMap) (d : Step) → ¬ (d ≡ c) → tree_at (with_put p c t) d ≡ tree_at p d
put_there p c t d n = go (which (len t == 0))
  where
    go : ((len t == 0) ≡ true) ⊎ ((len t == 0) ≡ false) → tree_at (with_put p c t) d ≡ tree_at p d
    go (inl h) = ap (λ (b : Bool). tree_at (cond b p (insert p c (joined (tree_at p c) t))) d) h
    go (inr h) = ap (λ (b : Bool). tree_at (cond b p (insert p c (joined (tree_at p c) t))) d) h ∙ ap tree_of (get_there p c (joined (tree_at p c) t) d n)

-- a cell is another one or not
pub one_or_other : (d c : Step) → (d ≡ c) ⊎ ¬ (d ≡ c)
one_or_other d c = go (which (eq_by_cmp step_order d c))
  where
    go : (eq_by_cmp step_order d c ≡ true) ⊎ (eq_by_cmp step_order d c ≡ false) → (d ≡ c) ⊎ ¬ (d ≡ c)
    go (inl p) = inl (tied d c p)
    go (inr p) = inr (λ e. let q = subst (λ (z : Step). eq_by_cmp step_order d z ≡ true) e (tied_same d) in cc)

-- the order of puts
pub puts_refl : (p : PutMap) → PutsBelow p p
puts_refl p = record { at = λ c. below_refl (tree_at p c) }

pub puts_trans : {p q r : PutMap} → PutsBelow p q → PutsBelow q r → PutsBelow p r
puts_trans h k = record { at = λ c. below_trans (h.at c) (k.at c) }

same_tree : (o r : Option TreeMap) → ((t : TreeMap) → o ≡ Some t → ¬ (t ≡ empty)) → ((t : TreeMap) → r ≡ Some t → ¬ (t ≡ empty)) → tree_of o ≡ tree_of r → o ≡ r
same_tree None None h k e = refl
same_tree None (Some u) h k e = absurd (k u refl (sym e))
same_tree (Some t) None h k e = absurd (h t refl e)
same_tree (Some t) (Some u) h k e = ap Some e

-- puts with the same trees are the same
pub puts_same : (p q : PutMap) → HasNoEmptyTree p → HasNoEmptyTree q → ((c : Step) → tree_at p c ≡ tree_at q c) → p ≡ q
puts_same p q h k e = same_map step_order-total step_order-exact p q (λ c. same_tree (get p c) (get q c) (h.at c) (k.at c) (e c))

pub puts_antisymm : (p q : PutMap) → HasNoEmptyTree p → HasNoEmptyTree q → PutsBelow p q → PutsBelow q p → p ≡ q
puts_antisymm p q h k a b = puts_same p q h k (λ c. below_antisymm (tree_at p c) (tree_at q c) (a.at c) (b.at c))

pub some_is : (a b : TreeMap) → Some a ≡ Some b → a ≡ b
some_is a b e = cc

-- what is found after an insert was inserted or was there
pub inserted : (p : PutMap) (c : Step) (u : TreeMap) (P : Step → TreeMap → Type 0) → P c u → ((d : Step) (t : TreeMap) → get p d ≡ Some t → P d t) → (d : Step) (t : TreeMap) → get (insert p c u) d ≡ Some t → P d t
inserted p c u P h k d t e = go (one_or_other d c)
  where
    here : get (insert p c u) c ≡ Some t → P c t
    here f = subst (P c) (some_is u t (sym (get_here p c u) ∙ f)) h

    go : (d ≡ c) ⊎ ¬ (d ≡ c) → P d t
    go (inl q) = subst (λ (z : Step). P z t) (sym q) (here (subst (λ (z : Step). get (insert p c u) z ≡ Some t) q e))
    go (inr n) = k d t (sym (get_there p c u d n) ∙ e)

pub held_insert : (p : PutMap) (c : Step) (u : TreeMap) → ArePutsHeld p → IsHeldStep c → IsHeldTree u → ¬ (u ≡ empty) → ArePutsHeld (insert p c u)
held_insert p c u h s t n = record {
  cells = inserted p c u (λ d _. IsHeldStep d) s h.cells;
  trees = inserted p c u (λ _ v. IsHeldTree v) t h.trees;
  some = record { at = inserted p c u (λ _ v. ¬ (v ≡ empty)) n h.some.at };
}

pub held_empty : ArePutsHeld empty
held_empty = record { cells = λ c t e. absurd (none c t e); trees = λ c t e. absurd (none c t e); some = record { at = λ c t e. absurd (none c t e) } }
  where
    none : (c : Step) (t : TreeMap) → get (let p : PutMap = empty in p) c ≡ Some t → ⊥
    none c t e = let f = get-empty {X = TreeMap} step_order c in cc

-- the puts of a list of cells
abbrev pub puts_of : List (Step × TreeMap) → PutMap
puts_of es = from_sorted es

pub rises : {es : List (Step × TreeMap)} → IsPuts es → T (is_sorted step_order es)
rises h = subst T (sym h.rising) tt

sorted_true : (b : Bool) → T b → b ≡ true
sorted_true true h = refl
sorted_true false h = absurd h

pub is_puts : (es : List (Step × TreeMap)) → T (is_sorted step_order es) → ArePutsHeld (puts_of es) → IsPuts es
is_puts es r h = record { rising = sorted_true (is_sorted step_order es) r; held = h }

pub puts_put : (es : List (Step × TreeMap)) (c : Step) (u : TreeMap) → T (is_sorted step_order es) → puts_of (put step_order c u es) ≡ insert (puts_of es) c u
puts_put es c u r =
    same_entries_map (puts_of (put step_order c u es)) (insert (puts_of es) c u)
    (entries-from_sorted step_order (put step_order c u es) (is_sorted-put step_order step_order-total c u es r)
    ∙ ap (put step_order c u) (sym (entries-from_sorted step_order es r))
    ∙ sym (entries-insert step_order-total (puts_of es) c u))

pub is_puts_put : (es : List (Step × TreeMap)) (c : Step) (u : TreeMap) → IsPuts es → IsHeldStep c → IsHeldTree u → ¬ (u ≡ empty) → IsPuts (put step_order c u es)
is_puts_put es c u h s t n =
    is_puts (put step_order c u es) (is_sorted-put step_order step_order-total c u es (rises h)) (subst ArePutsHeld (sym (puts_put es c u (rises h))) (held_insert (puts_of es) c u h.held s t n))

pub get_puts : (es : List (Step × TreeMap)) (c : Step) → T (is_sorted step_order es) → get (puts_of es) c ≡ find step_order c es
get_puts es c r = get-from_sorted step_order es c r

pub entries_puts : (es : List (Step × TreeMap)) → T (is_sorted step_order es) → entries (puts_of es) ≡ es
entries_puts es r = entries-from_sorted step_order es r

pub puts_nil : puts_of [] ≡ empty
puts_nil = same_map step_order-total step_order-exact (puts_of []) empty (λ q. get_puts [] q tt ∙ sym (get-empty step_order q))

pub is_puts_nil : IsPuts []
is_puts_nil = is_puts [] tt (subst ArePutsHeld (sym puts_nil) held_empty)

-- std's look-ups in a list find what a finite map finds
pub lookup_find : (c : Step) (es : List (Step × TreeMap)) → lookup (is_at (step_order c)) es ≡ find step_order c es
lookup_find c [] = refl
lookup_find c (e ∷ es) = ap (cond (eq_by_cmp step_order c e.0) (Some e.1)) (lookup_find c es)

-- and an entry goes where a finite map puts it
pub insert_put : (c : Step) (t : TreeMap) (es : List (Step × TreeMap)) → insert_entry step_order es c t ≡ put step_order c t es
insert_put c t [] = refl
insert_put c t (e ∷ es) = go (insert_put c t es) (step_order c e.0)
  where
    go : insert_entry step_order es c t ≡ put step_order c t es → (o : Ordering) → match_ordering o ((c, t) ∷ e ∷ es) ((e.0, t) ∷ es) (e ∷ insert_entry step_order es c t) ≡ by_order o ((c, t) ∷ e ∷ es) ((e.0, t) ∷ es) (e ∷ put step_order c t es)
    go more Less = refl
    go more Equal = refl
    go more Greater = ap (λ z. e ∷ z) more

-- the cells of a list are those of its puts
pub entries_view : (es : List (Step × TreeMap)) (p : PutMap) → IsPuts es → puts_of es ≡ p → es ≡ entries p
entries_view es p h e = sym (entries_puts es (rises h)) ∙ ap entries e

no_length : (es : List (Step × TreeMap)) → length es ≡ 0 → es ≡ []
no_length [] h = refl
no_length (e ∷ es) h = absurd (omega arith)

-- no cells are no entries
pub empty_puts : (es : List (Step × TreeMap)) (p : PutMap) → IsPuts es → puts_of es ≡ p → (length es ≡ 0 → p ≡ empty) × (p ≡ empty → length es ≡ 0)
empty_puts es p h e = (
  λ n. sym e ∙ ap puts_of (no_length es n) ∙ puts_nil,
  λ n. ap length (entries_view es p h e) ∙ ap (λ z. length (entries z)) n ∙ sym (len-entries (let q : PutMap = empty in q)) ∙ len-empty step_order TreeMap,
)
