-- Two lists of entries, each in order, made one in order.
use Rattle.std.specs.Prelude.{List, [], ◌∷◌, Bool, true, false, cond, ◌&&◌, nat_lt, nat_le}
use Rattle.std.specs.declared.cmp.Ordering.{Ordering}
use Rattle.std.specs.declared.cmp.Ordering.TheVariants.{Less, Equal, Greater}
use Rattle.path_trees.specs.declared.spots.Entry.{Entry}
use Rattle.path_trees.specs.Spots.{spot_order}

-- of two entries at one spot the one with the lesser distance
abbrev pub nearer : Entry → Entry → Entry
nearer x y = cond (nat_lt y.distance x.distance) y x

-- one of three, by an order
abbrev pub by_order : {A : Type 0} → Ordering → A → A → A → A
by_order Less a b c = a
by_order Equal a b c = b
by_order Greater a b c = c

-- x and what comes after it, which `rest` merges with a list, merged with a list
abbrev pub merge_from : Entry → (List Entry → List Entry) → List Entry → List Entry
merge_from x rest [] = x ∷ rest []
merge_from x rest (y ∷ ys) = by_order (spot_order x.spot y.spot) (x ∷ rest (y ∷ ys)) (nearer x y ∷ rest ys) (y ∷ merge_from x rest ys)

-- the entries of both in order, where one stands for two at one spot
abbrev pub merge : List Entry → List Entry → List Entry
merge [] ys = ys
merge (x ∷ xs) ys = merge_from x (merge xs) ys

-- whether x stands in a list, and all that `rest` tests
abbrev pub covered_from : Entry → (List Entry → Bool) → List Entry → Bool
covered_from x rest [] = false
covered_from x rest (y ∷ ys) = by_order (spot_order x.spot y.spot) false (nat_le y.distance x.distance && rest ys) (covered_from x rest ys)

-- whether each entry of the one stands in the other
abbrev pub covered : List Entry → List Entry → Bool
covered [] ys = true
covered (x ∷ xs) ys = covered_from x (covered xs) ys
