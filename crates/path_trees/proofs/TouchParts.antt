-- A source and a sink, found among entries and among their spots.
use Rattle.std.proofs.Common.{◌≡◌, ℕ, Bool, List, [], ◌∷◌, refl, ap, ◌∙◌, ◌||◌}
use Rattle.std.specs.List.{list_any}
use Rattle.path_trees.specs.declared.spots.Spot.{Spot}
use Rattle.path_trees.specs.declared.spots.Entry.{Entry}
use Rattle.path_trees.specs.Trees.{pairs_of}
use Rattle.path_trees.specs.Operations.{spots_touch}

any_pairs : (f : Spot → Bool) (es : List Entry) → list_any (λ (e : Entry). f e.spot) es ≡ list_any (λ (a : Spot × ℕ). f a.0) (pairs_of es)
any_pairs f [] = refl
any_pairs f (e ∷ es) = ap (λ z. f e.spot || z) (any_pairs f es)

pub touch_pairs : (xs ys : List Entry) → list_any (λ (a : Entry). list_any (λ (b : Entry). spots_touch a.spot b.spot) ys) xs ≡ list_any (λ (a : Spot × ℕ). list_any (λ (b : Spot × ℕ). spots_touch a.0 b.0) (pairs_of ys)) (pairs_of xs)
touch_pairs [] ys = refl
touch_pairs (x ∷ xs) ys =
    ap (λ z. z || list_any (λ (a : Entry). list_any (λ (b : Entry). spots_touch a.spot b.spot) ys) xs) (any_pairs (spots_touch x.spot) ys)
    ∙ ap (λ z. list_any (λ (b : Spot × ℕ). spots_touch x.spot b.0) (pairs_of ys) || z) (touch_pairs xs ys)

pub touch_lists : (xs ys : List Entry) (p q : List (Spot × ℕ)) → pairs_of xs ≡ p → pairs_of ys ≡ q → list_any (λ (a : Entry). list_any (λ (b : Entry). spots_touch a.spot b.spot) ys) xs ≡ list_any (λ (a : Spot × ℕ). list_any (λ (b : Spot × ℕ). spots_touch a.0 b.0) q) p
touch_lists xs ys p q e f =
    touch_pairs xs ys
    ∙ ap (λ z. list_any (λ (a : Spot × ℕ). list_any (λ (b : Spot × ℕ). spots_touch a.0 b.0) (pairs_of ys)) z) e
    ∙ ap (λ z. list_any (λ (a : Spot × ℕ). list_any (λ (b : Spot × ℕ). spots_touch a.0 b.0) z) p) f
