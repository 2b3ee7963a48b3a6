-- What is found at a step among cells.
use Rattle.std.proofs.Common.{◌≡◌, Bool, true, false, cond, List, [], ◌∷◌, map, filter, refl, ap, ◌∙◌, sym, subst, inl, inr, ◌⊎◌}
use Rattle.std.specs.Prelude.{T, IsTrue}
use Rattle.std.specs.FinMap.{empty, entries, entries_sorted, is_sorted}
use Rattle.rv_names.specs.Keys.{Bytes, bytes_equal}
use Rattle.std.specs.Cmp.Lexicographic.{nat_list_eq_equiv, same_text}
use Rattle.path_trees.specs.declared.steps.Step.{Step}
use Rattle.path_trees.specs.declared.steps.Step.TheVariants.{Attr, Key, Any, Keys}
use Rattle.path_trees.specs.declared.moves.Move.TheVariants.{Bump}
use Rattle.path_trees.specs.Steps.{meets, step_order}
use Rattle.path_trees.specs.Trees.{Below, TreeMap, least_of}
use Rattle.path_trees.specs.Operations.{images, joined, moved}
use Rattle.path_trees.proofs.Finite.{below_antisymm, below_refl, below_trans}
use Rattle.path_trees.proofs.TreeLaws.{join-mono, join_first, join_second, join_least, moved-mono, moved-join}
use Rattle.taint_model.specs.Puts.{PutMap, PutsBelow, cells_at, joined_all, joined_puts, tree_at}
use Rattle.taint_model.proofs.TreeFacts.{below_of, empty_below, entries_empty}
use Rattle.taint_model.proofs.PutFacts.{one_or_other}
use Rattle.taint_model.proofs.PutJoins.{at_entries, at_joined, listed_at, listed_before, listed_first, listed_later, puts_join_first, puts_join_second, sorted_rest}

-- the trees of the cells of a list that meet a step, each distance one more
abbrev pub met : Step → List (Step × TreeMap) → List TreeMap
met s es = map (λ (e : Step × TreeMap). moved Bump e.1) (filter (λ (e : Step × TreeMap). meets e.0 s) es)

-- the empty tree, moved
pub moved_empty : moved Bump empty ≡ empty
moved_empty = ap (λ z. least_of (images Bump z)) entries_empty

-- each cell of a list that meets the step is found
found_at : (es : List (Step × TreeMap)) (s c : Step) → meets c s ≡ true → Below (moved Bump (listed_at es c)) (joined_all (met s es))
found_at [] s c h = below_of moved_empty
found_at (e ∷ es) s c h = go (found_at es s c h) (one_or_other c e.0)
  where
    first : meets e.0 s ≡ true → Below (moved Bump e.1) (joined_all (met s (e ∷ es)))
    first m = subst (λ (b : Bool). Below (moved Bump e.1) (joined_all (map (λ (e : Step × TreeMap). moved Bump e.1) (cond b (e ∷ filter (λ (e : Step × TreeMap). meets e.0 s) es) (filter (λ (e : Step × TreeMap). meets e.0 s) es))))) (sym m) (join_first (moved Bump e.1) (joined_all (met s es)))

    later : (b : Bool) → Below (joined_all (met s es)) (joined_all (map (λ (e : Step × TreeMap). moved Bump e.1) (cond b (e ∷ filter (λ (e : Step × TreeMap). meets e.0 s) es) (filter (λ (e : Step × TreeMap). meets e.0 s) es))))
    later true = join_second (moved Bump e.1) (joined_all (met s es))
    later false = below_refl (joined_all (met s es))

    go : Below (moved Bump (listed_at es c)) (joined_all (met s es)) → (c ≡ e.0) ⊎ ¬ (c ≡ e.0) → Below (moved Bump (listed_at (e ∷ es) c)) (joined_all (met s (e ∷ es)))
    go more (inl q) =
        let m : meets e.0 s ≡ true = subst (λ (z : Step). meets z s ≡ true) q h in
        below_trans (moved-mono Bump (listed_at (e ∷ es) c) e.1 (below_of (ap (listed_at (e ∷ es)) q ∙ listed_first e es))) (first m)
    go more (inr n) = below_trans (moved-mono Bump (listed_at (e ∷ es) c) (listed_at es c) (below_of (listed_later c e es n))) (below_trans more (later (meets e.0 s)))

-- and nothing else is, in a list in order
found_least : (es : List (Step × TreeMap)) (s : Step) (t : TreeMap) → T (is_sorted step_order es) → ((c : Step) → meets c s ≡ true → Below (moved Bump (listed_at es c)) t) → Below (joined_all (met s es)) t
found_least [] s t r h = empty_below t
found_least (e ∷ es) s t r h = go (found_least es s t (sorted_rest e es r) (λ c m. rest c m (one_or_other c e.0))) (meets e.0 s) refl
  where
    rest : (c : Step) → meets c s ≡ true → (c ≡ e.0) ⊎ ¬ (c ≡ e.0) → Below (moved Bump (listed_at es c)) t
    rest c m (inl q) = below_trans (moved-mono Bump (listed_at es c) empty (below_of (ap (listed_at es) q ∙ listed_before e es r))) (below_trans (below_of moved_empty) (empty_below t))
    rest c m (inr n) = below_trans (moved-mono Bump (listed_at es c) (listed_at (e ∷ es) c) (below_of (sym (listed_later c e es n)))) (h c m)

    go : Below (joined_all (met s es)) t → (b : Bool) → meets e.0 s ≡ b → Below (joined_all (map (λ (e : Step × TreeMap). moved Bump e.1) (cond b (e ∷ filter (λ (e : Step × TreeMap). meets e.0 s) es) (filter (λ (e : Step × TreeMap). meets e.0 s) es)))) t
    go less true m = join_least (moved Bump e.1) (joined_all (met s es)) t (below_trans (moved-mono Bump e.1 (listed_at (e ∷ es) e.0) (below_of (sym (listed_first e es)))) (h e.0 m)) less
    go less false m = less

pub cells_above : (p : PutMap) (s c : Step) → IsTrue (meets c s) → Below (moved Bump (tree_at p c)) (cells_at p s)
cells_above p s c h = below_trans (moved-mono Bump (tree_at p c) (listed_at (entries p) c) (below_of (at_entries p c))) (found_at (entries p) s c h)

pub cells_least : (p : PutMap) (s : Step) (t : TreeMap) → ((c : Step) → IsTrue (meets c s) → Below (moved Bump (tree_at p c)) t) → Below (cells_at p s) t
cells_least p s t h = found_least (entries p) s t (entries_sorted p) (λ c m. below_trans (moved-mono Bump (listed_at (entries p) c) (tree_at p c) (below_of (sym (at_entries p c)))) (h c m))

pub cells-mono : (p q : PutMap) (s : Step) → PutsBelow p q → Below (cells_at p s) (cells_at q s)
cells-mono p q s h = cells_least p s (cells_at q s) (λ c m. below_trans (moved-mono Bump (tree_at p c) (tree_at q c) (h.at c)) (cells_above q s c m))

pub cells-join : (p q : PutMap) (s : Step) → cells_at (joined_puts p q) s ≡ joined (cells_at p s) (cells_at q s)
cells-join p q s =
    below_antisymm (cells_at (joined_puts p q) s) (joined (cells_at p s) (cells_at q s))
    (cells_least (joined_puts p q) s (joined (cells_at p s) (cells_at q s)) (λ c m.
    below_trans (below_of (ap (moved Bump) (at_joined p q c) ∙ moved-join Bump (tree_at p c) (tree_at q c)))
    (join-mono (moved Bump (tree_at p c)) (moved Bump (tree_at q c)) (cells_at p s) (cells_at q s) (cells_above p s c m) (cells_above q s c m))))
    (join_least (cells_at p s) (cells_at q s) (cells_at (joined_puts p q) s) (cells-mono p (joined_puts p q) s (puts_join_first p q)) (cells-mono q (joined_puts p q) s (puts_join_second p q)))

-- the only cell that meets an attribute is that attribute
meets_attr : (a : Bytes) (c : Step) → meets c (Attr a) ≡ true → c ≡ Attr a
meets_attr a (Attr b) h = ap Attr (same_text b a (sym h))
meets_attr a (Key b) h = absurd (cc)
meets_attr a Any h = absurd (cc)
meets_attr a Keys h = absurd (cc)

meets_keys : (c : Step) → meets c Keys ≡ true → c ≡ Keys
meets_keys (Attr b) h = absurd (cc)
meets_keys (Key b) h = absurd (cc)
meets_keys Any h = absurd (cc)
meets_keys Keys h = refl

meets_key : (a : Bytes) (c : Step) → meets c (Key a) ≡ true → (c ≡ Key a) ⊎ (c ≡ Any)
meets_key a (Attr b) h = absurd (cc)
meets_key a (Key b) h = inl (ap Key (same_text b a (sym h)))
meets_key a Any h = inr refl
meets_key a Keys h = absurd (cc)

one_cell : (p : PutMap) (s : Step) → meets s s ≡ true → ((c : Step) → meets c s ≡ true → c ≡ s) → moved Bump (tree_at p s) ≡ cells_at p s
one_cell p s m h =
    below_antisymm (moved Bump (tree_at p s)) (cells_at p s) (cells_above p s s m)
    (cells_least p s (moved Bump (tree_at p s)) (λ c n. below_of (ap (λ (z : Step). moved Bump (tree_at p z)) (h c n))))

bytes_same : (a : Bytes) → bytes_equal a a ≡ true
bytes_same a = nat_list_eq_equiv.refl a

-- so what is found there is what that cell has
pub cells_at_attr : (p : PutMap) (a : Bytes) → moved Bump (tree_at p (Attr a)) ≡ cells_at p (Attr a)
cells_at_attr p a = one_cell p (Attr a) (bytes_same a) (meets_attr a)

pub cells_at_keys : (p : PutMap) → moved Bump (tree_at p Keys) ≡ cells_at p Keys
cells_at_keys p = one_cell p Keys refl meets_keys

-- and at a key it is what the key and any key have
pub cells_at_key : (p : PutMap) (a : Bytes) → joined (moved Bump (tree_at p (Key a))) (moved Bump (tree_at p Any)) ≡ cells_at p (Key a)
cells_at_key p a =
    below_antisymm (joined (moved Bump (tree_at p (Key a))) (moved Bump (tree_at p Any))) (cells_at p (Key a)) (join_least (moved Bump (tree_at p (Key a))) (moved Bump (tree_at p Any)) (cells_at p (Key a)) (cells_above p (Key a) (Key a) (bytes_same a)) (cells_above p (Key a) Any refl))
    (cells_least p (Key a) (joined (moved Bump (tree_at p (Key a))) (moved Bump (tree_at p Any))) (λ c m. go c (meets_key a c m)))
  where
    go : (c : Step) → (c ≡ Key a) ⊎ (c ≡ Any) → Below (moved Bump (tree_at p c)) (joined (moved Bump (tree_at p (Key a))) (moved Bump (tree_at p Any)))
    go c (inl e) = below_trans (below_of (ap (λ (z : Step). moved Bump (tree_at p z)) e)) (join_first (moved Bump (tree_at p (Key a))) (moved Bump (tree_at p Any)))
    go c (inr e) = below_trans (below_of (ap (λ (z : Step). moved Bump (tree_at p z)) e)) (join_second (moved Bump (tree_at p (Key a))) (moved Bump (tree_at p Any)))

-- the same, of a step that is known to be one of these
pub cells_at_attr_of : (p : PutMap) (s : Step) (a : Bytes) → s ≡ Attr a → moved Bump (tree_at p s) ≡ cells_at p s
cells_at_attr_of p s a e = subst (λ (z : Step). moved Bump (tree_at p z) ≡ cells_at p z) (sym e) (cells_at_attr p a)

pub cells_at_keys_of : (p : PutMap) (s : Step) → s ≡ Keys → moved Bump (tree_at p s) ≡ cells_at p s
cells_at_keys_of p s e = subst (λ (z : Step). moved Bump (tree_at p z) ≡ cells_at p z) (sym e) (cells_at_keys p)

pub cells_at_key_of : (p : PutMap) (s : Step) (a : Bytes) (t u : TreeMap) → s ≡ Key a → t ≡ moved Bump (tree_at p s) → u ≡ moved Bump (tree_at p Any) → joined t u ≡ cells_at p s
cells_at_key_of p s a t u e f g =
    ap (λ (z : TreeMap). joined z u) f ∙ ap (joined (moved Bump (tree_at p s))) g
    ∙ subst (λ (z : Step). joined (moved Bump (tree_at p z)) (moved Bump (tree_at p Any)) ≡ cells_at p z) (sym e) (cells_at_key p a)
