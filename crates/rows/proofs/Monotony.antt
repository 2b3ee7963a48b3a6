-- A solution for greater inputs, where rows read them, is one for lesser ones; what is not touched stays solved.
use Rattle.std.proofs.Common.{◌≡◌, ◌↔◌, ℕ, List, [], ◌∷◌, true, Option, Some, None, refl, sym, subst, inl, inr, eqb, IsTrue}
use Rattle.std.specs.FinMap.{empty}
use Rattle.std.proofs.lemmas.Bool.Decides.{nat_tests}
use Rattle.std.proofs.Common.{arith}
use Rattle.path_trees.specs.declared.steps.Step.{Step}
use Rattle.path_trees.specs.Steps.{meets}
use Rattle.path_trees.specs.Trees.{TreeMap, Below}
use Rattle.path_trees.proofs.Finite.{below_refl, below_trans, below_antisymm}
use Rattle.rows.specs.declared.places.Place.{Place}
use Rattle.rows.specs.declared.places.Place.TheVariants.{Node, Back, Put}
use Rattle.rows.specs.declared.inequalities.Right.{Right}
use Rattle.rows.specs.declared.inequalities.Right.TheVariants.{Known, Local, Outer, Carried, Through, Wanted, Cells}
use Rattle.rows.specs.declared.inequalities.Row.{Row}
use Rattle.rows.specs.declared.inequalities.Row.TheVariants.{Into, Puts}
use Rattle.rows.specs.Families.{Family, Families, InputTrees, CellsBelow, Less}
use Rattle.rows.specs.Inequalities.{RightBelow, Holds, Solves, IsLeast}
use Rattle.rows.specs.Reading.{right_node, is_node}
use Rattle.rows.specs.Programs.{Body, Bodies, callee_tree, inputs_of, IsLeastOfAll, RightReads, RightReadsCell, RightReadsStep, RowReadsStep, RowsReadStep, RowReadsCell, RowsReadCell, RowReadsNode, RowsReadNode, LessWhereRead, SameWhereRead, Reads}
use Rattle.rows.proofs.Covers.{moved_all-mono, cells_reading, cells_of, cells_of_joins}
use Rattle.rows.proofs.Monotone.{carried-mono, through-mono, put_through-mono, wanted-mono}

right_reading : (I J : InputTrees) (N : ℕ → TreeMap) (r : Right) (u : TreeMap) → ((k : ℕ) (p : Place) → RightReads r k p → Below (I.of k p) (J.of k p)) → ((s : Step) → RightReadsStep r s → CellsBelow I.puts J.puts s) → RightBelow J N r u → RightBelow I N r u
right_reading I J N (Known t) u o q w = w
right_reading I J N (Local moves k) u o q w = w
right_reading I J N (Outer moves g p) u o q w = below_trans (moved_all-mono moves (I.of g p) (J.of g p) (o g p (refl, refl))) w
right_reading I J N (Carried g i) u o q w = below_trans (carried-mono (I.of g (Back i)) (J.of g (Back i)) (o g (Back i) (refl, refl))) w
right_reading I J N (Through g i n) u o q w = below_trans (through-mono (N n) (N n) (I.of g (Back i)) (J.of g (Back i)) (below_refl (N n)) (o g (Back i) (refl, refl))) w
right_reading I J N (Wanted g i n) u o q w = below_trans (wanted-mono (N n) (N n) (I.of g (Back i)) (J.of g (Back i)) (below_refl (N n)) (o g (Back i) (refl, refl))) w
right_reading I J N (Cells moves s) u o q w = cells_reading I.puts J.puts moves s u (q s refl) w

holds_reading : (I J : InputTrees) (F : Family) (r : Row) → LessWhereRead (r ∷ []) I J → Holds J F r → Holds I F r
holds_reading I J F (Into p r) l h = right_reading I J (λ n. F (Node n)) r (F p) (λ k q w. l.of k q (inl w)) (λ s w. l.puts s (inl w)) h
holds_reading I J F (Puts g i n) l h = λ c.
    below_trans (put_through-mono c (F (Node n)) (F (Node n)) (I.of g (Back i)) (J.of g (Back i)) (below_refl (F (Node n))) (l.of g (Back i) (inl (refl, refl)))) (h c)

pub solves_reading : (I J : InputTrees) (F : Family) (rows : List Row) → LessWhereRead rows I J → Solves J F rows → Solves I F rows
solves_reading I J F [] l s = tt
solves_reading I J F (r ∷ rows) l s = (
  holds_reading I J F r (record {
    of = λ k p w. l.of k p (elim w [ inl a ↦ inl a | inr n ↦ absurd n ]);
    puts = λ s w. l.puts s (elim w [ inl a ↦ inl a | inr n ↦ absurd n ]);
  }) s.0,
  solves_reading I J F rows (record { of = λ k p w. l.of k p (inr w); puts = λ s w. l.puts s (inr w) }) s.1,
)

pub where_refl : (rows : List Row) (I : InputTrees) → LessWhereRead rows I I
where_refl rows I = record { of = λ k p w. below_refl (I.of k p); puts = λ s w q d k. k }

pub where_trans : (rows : List Row) (I J K : InputTrees) → LessWhereRead rows I J → LessWhereRead rows J K → LessWhereRead rows I K
where_trans rows I J K a b = record { of = λ k p w. below_trans (a.of k p w) (b.of k p w); puts = λ s w q d k. b.puts s w q d (a.puts s w q d k) }

pub solves_for_less : (I J : InputTrees) (F : Family) (rows : List Row) → Less I J → Solves J F rows → Solves I F rows
solves_for_less I J F rows l s = solves_reading I J F rows (record { of = λ k p w. l.of k p; puts = λ s w. l.puts s }) s

-- least trees are monotone in the inputs
pub least-mono : (I J : InputTrees) (rows : List Row) (F G : Family) → Less I J → IsLeast I rows F → IsLeast J rows G → (p : Place) → Below (F p) (G p)
least-mono I J rows F G l f g = f.least G (solves_for_less I J G rows l g.solves)

-- there is at most one least solution
pub least_is_one : (I : InputTrees) (rows : List Row) (F G : Family) → IsLeast I rows F → IsLeast I rows G → (p : Place) → F p ≡ G p
least_is_one I rows F G f g p = below_antisymm (F p) (G p) (f.least G g.solves p) (g.least F f.solves p)

pub least_of_all_is_one : (bodies : Bodies) (M N : Families) → IsLeastOfAll bodies M → IsLeastOfAll bodies N → (g : ℕ) (p : Place) → M g p ≡ N g p
least_of_all_is_one bodies M N f g h p = below_antisymm (M h p) (N h p) (f.least N g.solves h p) (g.least M f.solves h p)

is_itself : (n : ℕ) → eqb n n ≡ true
is_itself n = grind (arith, nat_tests)

below_same : (t u : TreeMap) → t ≡ u → Below t u
below_same t u e = let P : TreeMap → Type 0 = λ z. Below t z in subst P e (below_refl t)

right_untouched : (I : InputTrees) (N M : ℕ → TreeMap) (r : Right) (u v : TreeMap) → ((n : ℕ) → IsTrue (is_node (right_node r) n) → M n ≡ N n) → Below u v → RightBelow I N r u → RightBelow I M r v
right_untouched I N M (Known t) u v e b h = below_trans h b
right_untouched I N M (Local moves n) u v e b h = below_trans (moved_all-mono moves (M n) (N n) (below_same (M n) (N n) (e n (is_itself n)))) (below_trans h b)
right_untouched I N M (Outer moves g p) u v e b h = below_trans h b
right_untouched I N M (Carried g i) u v e b h = below_trans h b
right_untouched I N M (Through g i n) u v e b h = below_trans (through-mono (M n) (N n) (I.of g (Back i)) (I.of g (Back i)) (below_same (M n) (N n) (e n (is_itself n))) (below_refl (I.of g (Back i)))) (below_trans h b)
right_untouched I N M (Wanted g i n) u v e b h = below_trans (wanted-mono (M n) (N n) (I.of g (Back i)) (I.of g (Back i)) (below_same (M n) (N n) (e n (is_itself n))) (below_refl (I.of g (Back i)))) (below_trans h b)
right_untouched I N M (Cells moves s) u v e b h = λ f c m. below_trans (h f c m) b

-- a row stays solved where no node that it reads changes, and trees grow
holds_untouched : (I : InputTrees) (F H : Family) (r : Row) → ((n : ℕ) → RowReadsNode r n → H (Node n) ≡ F (Node n)) → ((p : Place) → Below (F p) (H p)) → Holds I F r → Holds I H r
holds_untouched I F H (Into p r) e b h = right_untouched I (λ n. F (Node n)) (λ n. H (Node n)) r (F p) (H p) e (b p) h
holds_untouched I F H (Puts g i n) e b h = λ c.
    below_trans (put_through-mono c (H (Node n)) (F (Node n)) (I.of g (Back i)) (I.of g (Back i)) (below_same (H (Node n)) (F (Node n)) (e n refl)) (below_refl (I.of g (Back i)))) (below_trans (h c) (b (Put c)))

pub solves_untouched : (I : InputTrees) (F H : Family) (rows : List Row) → ((n : ℕ) → RowsReadNode rows n → H (Node n) ≡ F (Node n)) → ((p : Place) → Below (F p) (H p)) → Solves I F rows → Solves I H rows
solves_untouched I F H [] e b s = tt
solves_untouched I F H (r ∷ rows) e b s = (holds_untouched I F H r (λ n w. e n (inl w)) b s.0, solves_untouched I F H rows (λ n w. e n (inr w)) b s.1)

-- what a body reads of families that are greater there
callee_less : (M N : Families) (o : Option ℕ) (p : Place) → ((f : ℕ) → o ≡ Some f → Below (M f p) (N f p)) → Below (callee_tree M o p) (callee_tree N o p)
callee_less M N None p h = below_refl empty
callee_less M N (Some f) p h = h f refl

-- rows that read cells by a step read each cell that meets it
right_cell : (r : Right) (s c : Step) → IsTrue (meets c s) → RightReadsStep r s → RightReadsCell r c
right_cell (Known t) s c m w = w
right_cell (Local moves n) s c m w = w
right_cell (Outer moves g q) s c m w = w
right_cell (Carried g i) s c m w = w
right_cell (Through g i n) s c m w = w
right_cell (Wanted g i n) s c m w = w
right_cell (Cells moves t) s c m w = let P : Step → Type 0 = λ z. IsTrue (meets c z) in subst P w m

row_cell : (r : Row) (s c : Step) → IsTrue (meets c s) → RowReadsStep r s → RowReadsCell r c
row_cell (Into p r) s c m w = right_cell r s c m w
row_cell (Puts g i n) s c m w = w

rows_cell : (rows : List Row) (s c : Step) → IsTrue (meets c s) → RowsReadStep rows s → RowsReadCell rows c
rows_cell [] s c m w = w
rows_cell (r ∷ rows) s c m (inl w) = inl (row_cell r s c m w)
rows_cell (r ∷ rows) s c m (inr w) = inr (rows_cell rows s c m w)

pub less_of : (b : Body) (M N : Families) → ((f : ℕ) (p : Place) → Reads b f p → Below (M f p) (N f p)) → LessWhereRead b.rows (inputs_of b M) (inputs_of b N)
less_of b M N h = record {
  of = λ k p w. callee_less M N _ p (λ f e. h f p (inl (record { position = k; callee = e; reads = w })));
  puts = λ s w. cells_of (λ f c. M f (Put c)) (λ f c. N f (Put c)) s (λ f c m. h f (Put c) (inr (rows_cell b.rows s c m w)));
}

pub body_reading : (b : Body) (M N : Families) (T : Family) → ((f : ℕ) (p : Place) → Reads b f p → Below (M f p) (N f p)) → Solves (inputs_of b N) T b.rows → Solves (inputs_of b M) T b.rows
body_reading b M N T h s = solves_reading (inputs_of b M) (inputs_of b N) T b.rows (less_of b M N h) s

pub body_for_less : (b : Body) (M N : Families) (T : Family) → ((f : ℕ) (p : Place) → Below (M f p) (N f p)) → Solves (inputs_of b N) T b.rows → Solves (inputs_of b M) T b.rows
body_for_less b M N T h s = body_reading b M N T (λ f p w. h f p) s

-- least trees for inputs that are alike where rows read them
pub least_alike : (I J : InputTrees) (rows : List Row) (F H : Family) → LessWhereRead rows I J → LessWhereRead rows J I → ((p : Place) → H p ≡ F p) → IsLeast I rows F → IsLeast J rows H
least_alike I J rows F H l m e f = record {
  solves = solves_untouched J F H rows (λ n w. e (Node n)) (λ p. below_same (F p) (H p) (sym (e p))) (solves_reading J I F rows m f.solves);
  least = λ G s p. below_trans (below_same (H p) (F p) (e p)) (f.least G (solves_reading I J G rows l s) p);
}

-- ---- inputs that give the same

same_less : (I J : InputTrees) (rows : List Row) → SameWhereRead rows I J → LessWhereRead rows I J
same_less I J rows a = record {
  of = λ k p w. below_same (I.of k p) (J.of k p) (a.of k p w);
  puts = λ s w. let j = a.puts s w in cells_of_joins I.puts J.puts s j.0 j.1 j.2;
}

same_more : (I J : InputTrees) (rows : List Row) → SameWhereRead rows I J → LessWhereRead rows J I
same_more I J rows a = record {
  of = λ k p w. below_same (J.of k p) (I.of k p) (sym (a.of k p w));
  puts = λ s w. let j = a.puts s w in cells_of_joins J.puts I.puts s j.0 j.2 j.1;
}

pub same_where_read : (I J : InputTrees) (rows : List Row) → SameWhereRead rows I J → LessWhereRead rows I J × LessWhereRead rows J I
same_where_read I J rows a = (same_less I J rows a, same_more I J rows a)

pub joined_cells : (I J : InputTrees) (F : Family) (rows : List Row) → SameWhereRead rows I J → Solves I F rows ↔ Solves J F rows
joined_cells I J F rows a = (solves_reading J I F rows (same_more I J rows a), solves_reading I J F rows (same_less I J rows a))

pub joined_cells_least : (I J : InputTrees) (F : Family) (rows : List Row) → SameWhereRead rows I J → IsLeast I rows F → IsLeast J rows F
joined_cells_least I J F rows a = least_alike I J rows F F (same_less I J rows a) (same_more I J rows a) (λ p. refl)
