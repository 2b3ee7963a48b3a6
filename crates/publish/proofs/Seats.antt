-- Each step keeps the rule of the seats: one that knows its board knows that it is this one.
use Rattle.std.proofs.Common.{◌≡◌, ◌≢◌, ℕ, List, [], ◌∷◌, ◌++◌, set, refl, sym, ap, subst, ⊎_elim, Option, Some, None}
use mathlib.Core.Option.{some, some-ne-none}
use lib.ListN.{get_elem?}
use Rattle.atomic_table.proofs.Lists.{at_set, at_snoc}
use Rattle.left_right.specs.Register.{Admits, TurnsAt, Forks, Merges}
use Rattle.logbook.specs.Pages.{Book}
use Rattle.publish.specs.declared.boards.Board.{Board}
use Rattle.publish.specs.Boards.{board_of, IsOf, AllAreOf, Finds}

-- two books that name one board are one
pub same_book : (a b : Book) → board_of a ≡ board_of b → a ≡ b
same_book a b e = let book : Board → Book = λ c. record { number = c.number; log_name = c.log_name; cells_name = c.cells_name } in ap book e

none_is_of : (b : Board) → IsOf b None
none_is_of b c e = absurd (cc)

some_is_of : (b : Board) → IsOf b (Some b)
some_is_of b c e = cc

all_set : (b : Board) (views : List (Option Board)) (i : ℕ) (w : Option Board) → AllAreOf b views → IsOf b w → AllAreOf b (set views i w)
all_set b views i w all mine j u e =
    ⊎_elim (λ (t : (j ≡ i) × (w ≡ u)). subst (IsOf b) t.1 mine) (λ (t : (j ≢ i) × (get_elem? views j ≡ some u)). all j u t.1) (at_set views i j w u e)

all_snoc : (b : Board) (views : List (Option Board)) (w : Option Board) → AllAreOf b views → IsOf b w → AllAreOf b (views ++ w ∷ [])
all_snoc b views w all mine j u e = ⊎_elim (all j u) (λ (t : w ≡ u). subst (IsOf b) t mine) (at_snoc views w u j e)

module _ {T : Type 0} (board : T → Board) where
  pub starts : (x : T) → AllAreOf (board x) (None ∷ [])
  starts x = all_snoc (board x) [] None (λ j v e. absurd (some-ne-none v (sym e))) (none_is_of (board x))

  pub admits : Admits (λ x. AllAreOf (board x)) None
  admits x views all = all_snoc (board x) views None all (none_is_of (board x))

  pub reads : (id : ℕ) (v : Option Board) (x y : T) → board y ≡ board x → TurnsAt (λ z. AllAreOf (board z)) id v x y (λ v x y w. Finds (board y) v w)
  reads id v x y same views all at = (
    Some (board y),
    subst (λ (b : Board). AllAreOf b (set views id (Some (board y)))) (sym same) (all_set (board x) views id (Some (board y)) all (subst (λ (b : Board). IsOf b (Some (board y))) same (some_is_of (board y)))),
    (refl, subst (λ (b : Board). IsOf b v) (sym same) (all id v at)),
  )

  pub forks : (id : ℕ) (v : Option Board) → Forks (λ x. AllAreOf (board x)) id v v v
  forks id v x views all at = all_snoc (board x) (set views id v) v (all_set (board x) views id v all (all id v at)) (all id v at)

  pub merges : (id : ℕ) (v : Option Board) (other : ℕ) (w : Option Board) → Merges (λ x. AllAreOf (board x)) id v other w w None
  merges id v other w x views all at apart there =
      let theirs : IsOf (board x) w = ⊎_elim (λ (t : (other ≡ id) × (w ≡ w)). absurd (apart t.0)) (λ (t : (other ≢ id) × (get_elem? views other ≡ some w)). all other w t.1) (at_set views id other w w there) in
      all_set (board x) (set views id w) other None (all_set (board x) views id w all theirs) (none_is_of (board x))
