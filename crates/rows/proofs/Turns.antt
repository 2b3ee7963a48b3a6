-- What taking a row from the list keeps.
use Rattle.std.proofs.Common.{◌≡◌, ℕ, ◌+◌, ◌*◌, ◌≤◌, ◌<◌, ◌^◌, zero, suc, Bool, true, false, cond, List, [], ◌∷◌, ◌++◌, Option, Some, None, refl, ap, ◌∙◌, sym, subst, inl, inr, ◌⊎◌, arith, length, get_or, eqb, take, Contains, sum_by}
use Rattle.std.specs.FinMap.{empty}
use Rattle.std.proofs.Math.ListN.{set, length-set}
use Rattle.std.proofs.lemmas.List.{get_or-set_same, get_or-set_other, set-get_or, take_more}
use Rattle.std.proofs.lemmas.List.Elements.{Contains-append_cases, Contains-push_cases}
use Rattle.std.proofs.lemmas.List.Sums.{sum_by-set}
use Rattle.std.proofs.lemmas.Bool.{cases_eq, cases_Bool}
use Rattle.std.proofs.lemmas.Bool.Decides.{nat_tests}
use Rattle.ready_list.specs.Listed.{IsWellFormed, Listed}
use Rattle.ready_list.proofs.Rings.{length-le_from_apart}
use Rattle.path_trees.specs.Trees.{TreeMap, Below}
use Rattle.path_trees.specs.Operations.{joined}
use Rattle.path_trees.specs.Room.{room}
use Rattle.path_trees.proofs.Finite.{below_refl, below_trans}
use Rattle.path_trees.proofs.TreeLaws.{join_first, join_second, join_least}
use Rattle.rows.specs.declared.places.Place.{Place}
use Rattle.rows.specs.declared.places.Place.TheVariants.{Node, Result, Back, Put}
use Rattle.rows.specs.declared.inequalities.Right.{Right}
use Rattle.rows.specs.declared.inequalities.Right.TheVariants.{Known, Local, Outer, Carried, Through, Wanted, Cells}
use Rattle.rows.specs.declared.inequalities.Row.{Row}
use Rattle.rows.specs.declared.inequalities.Row.TheVariants.{Into, Puts}
use Rattle.rows.specs.Families.{Family, InputTrees, tree_at}
use Rattle.rows.specs.Inequalities.{RightBelow, Holds, Solves, IsRight}
use Rattle.rows.specs.Reading.{right_node, node_read, row_at, is_node, reads_node}
use Rattle.rows.specs.Working.{NodeHolds, IsRowBelow, AreRowsBelow, Working, work, Raised, Turned}
use Rattle.rows.proofs.Joins.{empty_below}
use Rattle.rows.proofs.Monotone.{right-mono, less_refl}

-- a solution solves each row
pub solves_at : (I : InputTrees) (F : Family) (rows : List Row) (i : ℕ) → i < length rows → Solves I F rows → Holds I F (row_at rows i)
solves_at I F [] i l s = absurd (omega arith)
solves_at I F (r ∷ rows) zero l s = s.0
solves_at I F (r ∷ rows) (suc i) l s = solves_at I F rows i (omega arith) s.1

is_itself : (n : ℕ) → eqb n n ≡ true
is_itself n = grind (arith, nat_tests)

is_it : (m n : ℕ) → eqb m n ≡ true → m ≡ n
is_it m n h = grind (arith, nat_tests)

-- a right side stays below a tree where no node that it reads changes
right_same : (I : InputTrees) (N M : ℕ → TreeMap) (r : Right) (u : TreeMap) → ((n : ℕ) → is_node (right_node r) n ≡ true → M n ≡ N n) → RightBelow I N r u → RightBelow I M r u
right_same I N M (Known t) u e h = h
right_same I N M (Local moves n) u e h = rw (e n (is_itself n)) h
right_same I N M (Outer moves g p) u e h = h
right_same I N M (Carried g i) u e h = h
right_same I N M (Through g i n) u e h = rw (e n (is_itself n)) h
right_same I N M (Wanted g i n) u e h = rw (e n (is_itself n)) h
right_same I N M (Cells moves s) u e h = h

-- two trees at an index
at_set : (N : List TreeMap) (n : ℕ) (t : TreeMap) → n < length N → tree_at (set N n t) n ≡ t
at_set N n t l = get_or-set_same N n t empty l

at_other : (N : List TreeMap) (n m : ℕ) (t : TreeMap) → (m ≡ n → ⊥) → tree_at (set N n t) m ≡ tree_at N m
at_other N n m t h = get_or-set_other N n m t empty h

-- the tree at an index grows
grows : (N : List TreeMap) (n m : ℕ) (t : TreeMap) → n < length N → Below (tree_at N n) t → Below (tree_at N m) (tree_at (set N n t) m)
grows N n m t l h = elim (cases_eq m n) [
  | inl e ↦ (let P : ℕ → Type 0 = λ z. Below (tree_at N z) (tree_at (set N n t) z) in
      subst P (sym e) (let Q : TreeMap → Type 0 = λ z. Below (tree_at N n) z in subst Q (sym (at_set N n t l)) h))
  | inr k ↦ (let Q : TreeMap → Type 0 = λ z. Below (tree_at N m) z in subst Q (sym (at_other N n m t k)) (below_refl (tree_at N m)))
]

-- a row that does not read the node still holds as far as it asks something of a node
holds_more : (I : InputTrees) (N : List TreeMap) (n : ℕ) (t : TreeMap) → n < length N → Below (tree_at N n) t → (r : Row) → is_node (node_read r) n ≡ false → NodeHolds I (tree_at N) r → NodeHolds I (tree_at (set N n t)) r
holds_more I N n t l b (Into (Node m) r) f h =
    right-mono I I (tree_at (set N n t)) (tree_at (set N n t)) r (tree_at N m) (tree_at (set N n t) m) (less_refl I) (λ k. below_refl (tree_at (set N n t) k)) (grows N n m t l b)
    (right_same I (tree_at N) (tree_at (set N n t)) r (tree_at N m) (λ k y. at_other N n k t (λ e. let w : is_node (right_node r) n ≡ true = subst (λ (z : ℕ). is_node (right_node r) z ≡ true) e y in cc)) h)
holds_more I N n t l b (Into Result r) f h = h
holds_more I N n t l b (Into (Back i) r) f h = h
holds_more I N n t l b (Into (Put c) r) f h = h
holds_more I N n t l b (Puts g i k) f h = h

in_first : (row : ℕ) (ids : List ℕ) (i : ℕ) → Contains (row ∷ ids) i → (row ≡ i) ⊎ Contains ids i
in_first row ids i c = elim (Contains-append_cases (row ∷ []) ids i c) [
  | inl a ↦ elim (Contains-push_cases [] row i a) [ inl n ↦ absurd (let k = n.1 in omega arith) | inr e ↦ inl e ]
  | inr b ↦ inr b
]

-- a row that holds is taken from the list
taken_holds : (I : InputTrees) (rows : List Row) (N : List TreeMap) (ids : List ℕ) (row : ℕ) → NodeHolds I (tree_at N) (row_at rows row) → Working I rows N (row ∷ ids) → Working I rows N ids
taken_holds I rows N ids row h w = record {
  under = w.under;
  done = λ i l. elim (w.done i l) [
    | inl c ↦ elim (in_first row ids i c) [
      | inl e ↦ inr (subst (λ (z : ℕ). NodeHolds I (tree_at N) (row_at rows z)) e h)
      | inr k ↦ inl k
    ]
    | inr k ↦ inr k
  ];
}

-- the right side stood below the tree already
pub stood : (I : InputTrees) (rows : List Row) (N : List TreeMap) (ids : List ℕ) (n : ℕ) (r : Right) (v : TreeMap) → IsRight I (tree_at N) r v → Below v (tree_at N n)
    → (row : ℕ) → row_at rows row ≡ Into (Node n) r → Working I rows N (row ∷ ids) → Working I rows N ids
stood I rows N ids n r v is b row e w =
    taken_holds I rows N ids row
    (subst (λ (z : Row). NodeHolds I (tree_at N) z) (sym e) (right-mono I I (tree_at N) (tree_at N) r v (tree_at N n) (less_refl I) (λ k. below_refl (tree_at N k)) b is.above)) w

-- the tree grew, and the rows that read it are in the list
pub grew : (I : InputTrees) (rows : List Row) (N : List TreeMap) (ids left : List ℕ) (n : ℕ) (r : Right) (v t : TreeMap) → n < length N → IsRight I (tree_at N) r v → t ≡ joined (tree_at N n) v
    → ((i : ℕ) → Contains ids i → Contains left i) → ((i : ℕ) → i < length rows → reads_node rows i n ≡ true → Contains left i)
    → (row : ℕ) → row < length rows → row_at rows row ≡ Into (Node n) r → Working I rows N (row ∷ ids) → Working I rows (set N n t) left
grew I rows N ids left n r v t l is e kept pushed row within at w =
    let up : Below (tree_at N n) t = let P : TreeMap → Type 0 = λ z. Below (tree_at N n) z in subst P (sym e) (join_first (tree_at N n) v) in
    let over : Below v t = let P : TreeMap → Type 0 = λ z. Below v z in subst P (sym e) (join_second (tree_at N n) v) in
    let here : is_node (node_read (row_at rows row)) n ≡ false → NodeHolds I (tree_at (set N n t)) (row_at rows row) = λ f.
    let unread : is_node (right_node r) n ≡ false = ap (λ z. is_node (node_read z) n) (sym at) ∙ f in
    subst (λ (z : Row). NodeHolds I (tree_at (set N n t)) z) (sym at)
    (right-mono I I (tree_at (set N n t)) (tree_at (set N n t)) r v (tree_at (set N n t) n) (less_refl I) (λ k. below_refl (tree_at (set N n t) k))
    (let P : TreeMap → Type 0 = λ z. Below v z in subst P (sym (at_set N n t l)) over)
    (right_same I (tree_at N) (tree_at (set N n t)) r v (λ k y. at_other N n k t (λ q. let b : is_node (right_node r) n ≡ true = subst (λ (z : ℕ). is_node (right_node r) z ≡ true) q y in cc)) is.above)) in
    record {
      under = λ G s m. elim (cases_eq m n) [
        | inl q ↦ (let P : ℕ → Type 0 = λ z. Below (tree_at (set N n t) z) (G (Node z)) in
            subst P (sym q) (let Q : TreeMap → Type 0 = λ z. Below z (G (Node n)) in
            subst Q (sym (at_set N n t l ∙ e)) (join_least (tree_at N n) v (G (Node n)) (w.under G s n)
            (is.least (G (Node n)) (right-mono I I (tree_at N) (λ k. G (Node k)) r (G (Node n)) (G (Node n)) (less_refl I) (w.under G s) (below_refl (G (Node n)))
            (let H : Row → Type 0 = λ z. Holds I G z in subst H at (solves_at I G rows row within s)))))))
        | inr q ↦ (let Q : TreeMap → Type 0 = λ z. Below z (G (Node m)) in subst Q (sym (at_other N n m t q)) (w.under G s m))
      ];
      done = λ i b. elim (cases_Bool (reads_node rows i n)) [
        | inl y ↦ inl (pushed i b y)
        | inr f ↦ elim (w.done i b) [
          | inl c ↦ elim (in_first row ids i c) [
            | inl q ↦ inr (let P : ℕ → Type 0 = λ z. is_node (node_read (row_at rows z)) n ≡ false → NodeHolds I (tree_at (set N n t)) (row_at rows z) in subst P q here f)
            | inr k ↦ inl (kept i k)
          ]
          | inr h ↦ inr (holds_more I N n t l up (row_at rows i) f h)
        ]
      ];
    }

-- a list without repeats is shorter than 2 ^ 32
list_short : (list : Listed) → IsWellFormed list → length list.ids < 2 ^ 32
list_short list w = let s = length-le_from_apart list.ids list.room w.distinct w.within in let f = w.fits in omega arith

pub work_same : (N : List TreeMap) (ids : List ℕ) (row : ℕ) → work N ids < work N (row ∷ ids)
unfolding work
work_same N ids row = omega arith

pub work_falls : (N : List TreeMap) (n : ℕ) (t : TreeMap) (left : Listed) (ids : List ℕ) (row : ℕ) → n < length N → room t < room (tree_at N n) → IsWellFormed left → work (set N n t) left.ids < work N (row ∷ ids)
unfolding work
work_falls N n t left ids row l f w =
    let s = sum_by-set room N n t empty l in
    let k = list_short left w in
    let fewer : sum_by room (set N n t) + 1 ≤ sum_by room N = omega arith in
    omega arith

pub raised_same : (I : InputTrees) (rows : List Row) (N : List TreeMap) (ids : List ℕ) (n : ℕ) (r : Right) (v t : TreeMap) → n < length N → IsRight I (tree_at N) r v → Below v (tree_at N n) → t ≡ tree_at N n → Raised I rows n r N (set N n t) ids ids
raised_same I rows N ids n r v t l is b e =
    let same : set N n t ≡ N = ap (set N n) e ∙ set-get_or N n empty in
    let P : List TreeMap → Type 0 = λ M. Raised I rows n r N M ids ids in
    subst P (sym same) (record {
      counted = refl;
      keeps = λ row within at w. stood I rows N ids n r v is b row at w;
      falls = λ row. work_same N ids row;
    })

pub raised_grew : (I : InputTrees) (rows : List Row) (N : List TreeMap) (ids : List ℕ) (left : Listed) (n : ℕ) (r : Right) (v t : TreeMap) → n < length N → IsRight I (tree_at N) r v → t ≡ joined (tree_at N n) v → room t < room (tree_at N n) → IsWellFormed left
    → ((i : ℕ) → Contains ids i → Contains left.ids i) → ((i : ℕ) → i < length rows → reads_node rows i n ≡ true → Contains left.ids i) → Raised I rows n r N (set N n t) ids left.ids
raised_grew I rows N ids left n r v t l is e f w kept pushed = record {
  counted = length-set N n t;
  keeps = λ row within at k. grew I rows N ids left.ids n r v t l is e kept pushed row within at k;
  falls = λ row. work_falls N n t left ids row l f w;
}

-- a row that asks nothing of a node
pub turned_idle : (I : InputTrees) (rows : List Row) (N : List TreeMap) (ids : List ℕ) (row : ℕ) → NodeHolds I (tree_at N) (row_at rows row) → Turned I rows row N N ids ids
turned_idle I rows N ids row h = record {
  counted = refl;
  keeps = taken_holds I rows N ids row h;
  falls = work_same N ids row;
}

pub turned_raised : (I : InputTrees) (rows : List Row) (N M : List TreeMap) (ids left : List ℕ) (row n : ℕ) (r : Right) → row < length rows → row_at rows row ≡ Into (Node n) r → Raised I rows n r N M ids left → Turned I rows row N M ids left
turned_raised I rows N M ids left row n r l e d = record { counted = d.counted; keeps = d.keeps row l e; falls = d.falls row }

pub row_below_at : (count : ℕ) (rows : List Row) (i : ℕ) → i < length rows → AreRowsBelow count rows → IsRowBelow count (row_at rows i)
row_below_at count [] i l h = absurd (omega arith)
row_below_at count (r ∷ rows) zero l h = h.0
row_below_at count (r ∷ rows) (suc i) l h = row_below_at count rows i (omega arith) h.1

-- at the beginning all rows are in the list, and all trees are empty
pub begins : (I : InputTrees) (rows : List Row) (N : List TreeMap) (ids : List ℕ) → ((n : ℕ) → tree_at N n ≡ empty) → ((i : ℕ) → i < length rows → Contains ids i) → Working I rows N ids
begins I rows N ids e all = record {
  under = λ G s n. let P : TreeMap → Type 0 = λ z. Below z (G (Node n)) in subst P (sym (e n)) (empty_below (G (Node n)));
  done = λ i l. inl (all i l);
}

-- the first of a list is below its room
pub first_within : (row : ℕ) (rest : List ℕ) (list : Listed) → list.ids ≡ row ∷ rest → IsWellFormed list → row < list.room
first_within row rest list e w =
    let l : 0 < length list.ids = let k : length list.ids ≡ suc (length rest) = ap length e in omega arith in
    let at : get_or list.ids 0 0 ≡ row = ap (λ (z : List ℕ). get_or z 0 0) e in
    let b = w.within 0 0 l in
    subst (λ (z : ℕ). z < list.room) at b

-- an index within reads the same whatever the default
pub any_default : (rows : List Row) (i : ℕ) (x : Row) → i < length rows → get_or rows i x ≡ row_at rows i
any_default [] i x l = absurd (omega arith)
any_default (r ∷ rows) zero x l = refl
any_default (r ∷ rows) (suc i) x l = any_default rows i x (omega arith)

below_more : (a b : ℕ) (r : Row) → a ≤ b → IsRowBelow a r → IsRowBelow b r
below_more a b (Into (Node n) r) l h = omega arith
below_more a b (Into Result r) l h = h
below_more a b (Into (Back i) r) l h = h
below_more a b (Into (Put c) r) l h = h
below_more a b (Puts g i n) l h = h

pub rows_below_more : (a b : ℕ) (rows : List Row) → a ≤ b → AreRowsBelow a rows → AreRowsBelow b rows
rows_below_more a b [] l h = h
rows_below_more a b (r ∷ rows) l h = (below_more a b r l h.0, rows_below_more a b rows l h.1)

rows_below_push : (a : ℕ) (rows : List Row) (r : Row) → AreRowsBelow a rows → IsRowBelow a r → AreRowsBelow a (rows ++ r ∷ [])
rows_below_push a [] r h k = (k, tt)
rows_below_push a (x ∷ rows) r h k = (h.0, rows_below_push a rows r h.1 k)

-- one row more
pub rows_below_next : (a b m : ℕ) (rows : List Row) (i : ℕ) (r : Row) → i < length rows → r ≡ get_or rows i r → a ≤ b → m ≤ b → IsRowBelow m r → AreRowsBelow a (take i rows) → AreRowsBelow b (take (i + 1) rows)
rows_below_next a b m rows i r l is h k w v =
    let more : take (i + 1) rows ≡ take i rows ++ r ∷ [] = take_more rows i r l ∙ ap (λ z. take i rows ++ z ∷ []) (sym is) in
    let P : List Row → Type 0 = AreRowsBelow b in
    subst P (sym more) (rows_below_push b (take i rows) r (rows_below_more a b (take i rows) h v) (below_more m b r k w))
