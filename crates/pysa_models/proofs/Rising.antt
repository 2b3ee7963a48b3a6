-- Names that are sorted and differ rise.
use Rattle.std.proofs.Common.{◌≡◌, ◌+◌, Bool, false, List, [], get_or, refl, sym, ap, ◌∙◌, true≢false, arith}
use Rattle.std.specs.Cmp.{IsTotalOrder}
use Rattle.std.specs.Cmp.Rules.{comparing}
use Rattle.std.specs.Cmp.Lexicographic.{lists_ties, texts_ties}
use Rattle.std.specs.List.{IsDistinct}
use Rattle.std.specs.List.Sorted.{IsSorted, IsStrictlySortedBy}
use Rattle.std.specs.Ordering.{is_eq, is_lt, ordering_reverse, eq_by_cmp}
use Rattle.std.specs.declared.cmp.Ordering.{Ordering}
use Rattle.std.specs.declared.cmp.Ordering.TheVariants.{Less, Equal, Greater}
use Rattle.std.proofs.Common.{rules}
use Rattle.std.proofs.lemmas.Map.Keys.{apart_from_distinct, sorted_from_all_adjacent}
use Rattle.rv_names.specs.Keys.{Parts, parts_equal, parts_order, bytes_order}

parts_order-total : IsTotalOrder parts_order
parts_order-total = search (comparing, rules)

parts_ties : (x y : Parts) → parts_equal x y ≡ eq_by_cmp parts_order x y
parts_ties = lists_ties bytes_order texts_ties

-- of two that are not equal, where the second is not below the first, the first is below the second
below : (o r : Ordering) (e : Bool) → is_lt r ≡ false → e ≡ false → e ≡ is_eq o → r ≡ ordering_reverse o → o ≡ Less
below Less r e h g k m = refl
below Equal r e h g k m = absurd (true≢false (sym k ∙ g))
below Greater r e h g k m = absurd (true≢false (sym (ap is_lt m) ∙ h))

pub rises : (names : List Parts) → IsSorted parts_order names → IsDistinct parts_equal names → IsStrictlySortedBy parts_order names
rises names sorted distinct =
    sorted_from_all_adjacent parts_order-total names [] (λ k within.
    let x = get_or names k [] in
    let y = get_or names (k + 1) [] in
    below (parts_order x y) (parts_order y x) (parts_equal x y) (sorted k [] (omega arith) within) (apart_from_distinct parts_equal names k (k + 1) [] distinct (omega arith) within) (parts_ties x y) (parts_order-total.antisymm y x))
