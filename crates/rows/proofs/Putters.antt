-- The join of what is put into the cells that meet a step, put after put.
use Rattle.std.proofs.Common.{◌≡◌, ℕ, ◌+◌, ◌<◌, zero, suc, Bool, true, false, cond, List, [], ◌∷◌, ◌++◌, refl, ap, ◌∙◌, sym, subst, inl, inr, ◌⊎◌, arith, length, get_or, take, take_all, IsTrue}
use Rattle.std.specs.FinMap.{empty}
use Rattle.std.proofs.lemmas.List.{take_more}
use Rattle.path_trees.specs.declared.steps.Step.{Step}
use Rattle.path_trees.specs.declared.spots.Spot.{Spot}
use Rattle.path_trees.specs.declared.moves.Move.{Move}
use Rattle.path_trees.specs.declared.moves.Move.TheVariants.{Bump}
use Rattle.path_trees.specs.Steps.{meets, step_equal}
use Rattle.path_trees.specs.Trees.{TreeMap, Below, Stands}
use Rattle.path_trees.specs.Operations.{joined, moved}
use Rattle.path_trees.proofs.Finite.{Listed, listed_split, least_listed, listed_stands, below_refl, below_trans}
use Rattle.path_trees.proofs.TreeLaws.{join_first, join_second, moved-least, moved-mono}
use Rattle.path_trees.specs.Trees.{least_of}
use Rattle.std.specs.FinMap.{entries}
use Rattle.rows.specs.declared.solutions.PutTree.{PutTree}
use Rattle.rows.specs.Families.{IsJoinOfCells, StandsInCell}
use Rattle.rows.specs.Solutions.{one_put}
use Rattle.rows.specs.Told.{puts_of}
use Rattle.rows.proofs.Joins.{empty_below}
use Rattle.rows.proofs.Gifts.{step_exact, step_itself, same_below}

empty_stands : (q : Spot) (d : ℕ) → Stands empty q d → ⊥
empty_stands q d h = least_listed [] q d h

moved_empty : (m : Move) (u : TreeMap) → Below (moved m empty) u
moved_empty m u = below_trans (same_below (moved m empty) empty (moved-least m [])) (empty_below u)

pub joins_none : (s : Step) (t : TreeMap) → t ≡ empty → IsJoinOfCells (puts_of []) s t
joins_none s t e = record {
  above = λ h c m. moved_empty Bump t;
  made = λ q d h. absurd (empty_stands q d (let P : TreeMap → Type 0 = λ z. Stands z q d in subst P e h));
}

above_push : (P : List PutTree) (x : PutTree) (s : Step) (u : TreeMap) → ((h : ℕ) (c : Step) → IsTrue (meets c s) → Below (moved Bump (puts_of P h c)) u) → ((c : Step) → IsTrue (meets c s) → Below (moved Bump (one_put x c)) u)
    → (h : ℕ) (c : Step) → IsTrue (meets c s) → Below (moved Bump (puts_of (P ++ x ∷ []) h c)) u
above_push [] x s u a b zero c m = b c m
above_push [] x s u a b (suc h) c m = a (suc h) c m
above_push (p ∷ P) x s u a b zero c m = a zero c m
above_push (p ∷ P) x s u a b (suc h) c m = above_push P x s u (λ k. a (suc k)) b h c m

puts_push : (P : List PutTree) (x : PutTree) (h : ℕ) (c : Step) → Below (puts_of P h c) (puts_of (P ++ x ∷ []) h c)
puts_push [] x h c = empty_below (puts_of (x ∷ []) h c)
puts_push (p ∷ P) x zero c = below_refl (one_put p c)
puts_push (p ∷ P) x (suc h) c = puts_push P x h c

put_last : (P : List PutTree) (x : PutTree) → puts_of (P ++ x ∷ []) (length P) x.cell ≡ x.tree
put_last [] x = ap (λ b. cond b x.tree empty) (step_itself x.cell)
put_last (p ∷ P) x = put_last P x

made_push : (P : List PutTree) (x : PutTree) (s : Step) (q : Spot) (d : ℕ) → StandsInCell (puts_of P) s q d → StandsInCell (puts_of (P ++ x ∷ [])) s q d
made_push P x s q d k = record {
  callable = k.callable;
  cell = k.cell;
  meets_it = k.meets_it;
  stands = (moved-mono Bump _ _ (puts_push P x k.callable k.cell)).at q d k.stands;
}

-- a put into a cell that does not meet the step
joins_skip : (P : List PutTree) (x : PutTree) (s : Step) (t : TreeMap) → meets x.cell s ≡ false → IsJoinOfCells (puts_of P) s t → IsJoinOfCells (puts_of (P ++ x ∷ [])) s t
joins_skip P x s t f j = record { above = above_push P x s t j.above (λ c m. go c m (step_equal x.cell c) refl); made = λ q d h. made_push P x s q d (j.made q d h) }
  where
    go : (c : Step) → IsTrue (meets c s) → (b : Bool) → step_equal x.cell c ≡ b → Below (moved Bump (cond b x.tree empty)) t
    go c m true e = absurd (let y : meets x.cell s ≡ true = subst (λ (z : Step). meets z s ≡ true) (sym (step_exact x.cell c e)) m in cc)
    go c m false e = moved_empty Bump t

stands_joined : (t u : TreeMap) (q : Spot) (d : ℕ) → Stands (joined t u) q d → Stands t q d ⊎ Stands u q d
stands_joined t u q d h = elim (listed_split (entries t) (entries u) q d (least_listed (entries t ++ entries u) q d h)) [
  | inl a ↦ inl (listed_stands t q d a)
  | inr b ↦ inr (listed_stands u q d b)
]

-- and one into a cell that does
joins_take : (P : List PutTree) (x : PutTree) (s : Step) (t u : TreeMap) → meets x.cell s ≡ true → u ≡ joined t (moved Bump x.tree) → IsJoinOfCells (puts_of P) s t → IsJoinOfCells (puts_of (P ++ x ∷ [])) s u
joins_take P x s t u y e j = record {
  above = above_push P x s u (λ h c m. below_trans (j.above h c m) up) (λ c m. go (step_equal x.cell c));
  made = λ q d h. elim (stands_joined t (moved Bump x.tree) q d (let Q : TreeMap → Type 0 = λ z. Stands z q d in subst Q e h)) [
    | inl a ↦ made_push P x s q d (j.made q d a)
    | inr b ↦ record {
      callable = length P;
      cell = x.cell;
      meets_it = y;
      stands = let Q : TreeMap → Type 0 = λ z. Stands (moved Bump z) q d in subst Q (sym (put_last P x)) b;
    }
  ];
}
  where
    up : Below t u
    up = let Q : TreeMap → Type 0 = λ z. Below t z in subst Q (sym e) (join_first t (moved Bump x.tree))

    over : Below (moved Bump x.tree) u
    over = let Q : TreeMap → Type 0 = λ z. Below (moved Bump x.tree) z in subst Q (sym e) (join_second t (moved Bump x.tree))

    go : (b : Bool) → Below (moved Bump (cond b x.tree empty)) u
    go true = over
    go false = moved_empty Bump u

first_more : (P : List PutTree) (i : ℕ) (x : PutTree) → i < length P → x ≡ get_or P i x → take i P ++ x ∷ [] ≡ take (i + 1) P
first_more P i x l is = sym (take_more P i x l ∙ ap (λ z. take i P ++ z ∷ []) (sym is))

pub skip_more : (P : List PutTree) (i : ℕ) (x : PutTree) (s : Step) (t : TreeMap) → i < length P → x ≡ get_or P i x → meets x.cell s ≡ false → IsJoinOfCells (puts_of (take i P)) s t → IsJoinOfCells (puts_of (take (i + 1) P)) s t
skip_more P i x s t l is f j = let Q : List PutTree → Type 0 = λ z. IsJoinOfCells (puts_of z) s t in subst Q (first_more P i x l is) (joins_skip (take i P) x s t f j)

pub take_another : (P : List PutTree) (i : ℕ) (x : PutTree) (s : Step) (t u : TreeMap) → i < length P → x ≡ get_or P i x → meets x.cell s ≡ true → u ≡ joined t (moved Bump x.tree) → IsJoinOfCells (puts_of (take i P)) s t → IsJoinOfCells (puts_of (take (i + 1) P)) s u
take_another P i x s t u l is y e j = let Q : List PutTree → Type 0 = λ z. IsJoinOfCells (puts_of z) s u in subst Q (first_more P i x l is) (joins_take (take i P) x s t u y e j)
