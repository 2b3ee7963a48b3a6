-- Names are ordered as they are printed, since a dot is below all their bytes.
use Rattle.std.proofs.Common.{◌≡◌, ℕ, ◌<◌, [], ◌∷◌, ◌++◌, refl, ap, ◌∙◌, arith}
use Rattle.std.specs.List.{flat_map}
use Rattle.std.specs.Ordering.{nat_cmp, ordering_then}
use Rattle.std.specs.declared.cmp.Ordering.{Ordering}
use Rattle.std.specs.declared.cmp.Ordering.TheVariants.{Less, Equal, Greater}
use Rattle.std.proofs.lemmas.Bool.Decides.{nat_tests}
use Rattle.rv_names.specs.Keys.{Bytes, Parts, after_dot, bytes_order, dotted, parts_order}
use Rattle.pysa_models.specs.Printed.{AreAboveDot, IsAboveDot, AreAllAboveDot}

-- what stands behind a name: nothing, or further names, each behind a dot
abbrev rest : Parts → Bytes
rest = flat_map after_dot

dot_below : (y : ℕ) → 46 < y → nat_cmp 46 y ≡ Less
dot_below y h = grind (arith, nat_tests)

above_dot : (y : ℕ) → 46 < y → nat_cmp y 46 ≡ Greater
above_dot y h = grind (arith, nat_tests)

then_again : (o p q : Ordering) → ordering_then o (ordering_then p q) ≡ ordering_then (ordering_then o p) q
then_again Less p q = refl
then_again Equal p q = refl
then_again Greater p q = refl

-- what stands behind a name is below each name that goes on there
ends_first : (ps : Parts) (y : ℕ) (m : Bytes) → 46 < y → bytes_order (rest ps) (y ∷ m) ≡ Less
ends_first [] y m h = refl
ends_first (a ∷ ps) y m h = ap (λ o. ordering_then o (bytes_order (a ++ rest ps) m)) (dot_below y h)

goes_on : (qs : Parts) (y : ℕ) (n : Bytes) → 46 < y → bytes_order (y ∷ n) (rest qs) ≡ Greater
goes_on [] y n h = refl
goes_on (b ∷ qs) y n h = ap (λ o. ordering_then o (bytes_order n (b ++ rest qs))) (above_dot y h)

name_first : (n m : Bytes) (ps qs : Parts) → AreAboveDot n → AreAboveDot m
    → bytes_order (n ++ rest ps) (m ++ rest qs) ≡ ordering_then (bytes_order n m) (bytes_order (rest ps) (rest qs))
name_first [] [] ps qs h k = refl
name_first [] (y ∷ m) ps qs h k = ends_first ps y (m ++ rest qs) k.0
name_first (x ∷ n) [] ps qs h k = goes_on qs x (n ++ rest ps) h.0
name_first (x ∷ n) (y ∷ m) ps qs h k =
    ap (ordering_then (nat_cmp x y)) (name_first n m ps qs h.1 k.1) ∙ then_again (nat_cmp x y) (bytes_order n m) (bytes_order (rest ps) (rest qs))

bytes_above : (n : Bytes) → IsAboveDot n → AreAboveDot n
bytes_above [] h = absurd h
bytes_above (x ∷ n) h = h

behind_dots : (ps qs : Parts) → AreAllAboveDot ps → AreAllAboveDot qs → bytes_order (rest ps) (rest qs) ≡ parts_order ps qs
behind_dots [] [] h k = refl
behind_dots [] (b ∷ qs) h k = refl
behind_dots (a ∷ ps) [] h k = refl
behind_dots (a ∷ ps) (b ∷ qs) h k =
    name_first a b ps qs (bytes_above a h.0) (bytes_above b k.0) ∙ ap (ordering_then (bytes_order a b)) (behind_dots ps qs h.1 k.1)

first_name : (b : Bytes) (qs : Parts) → IsAboveDot b → bytes_order [] (b ++ rest qs) ≡ Less
first_name [] qs h = absurd h
first_name (x ∷ b) qs h = refl

no_name : (a : Bytes) (ps : Parts) → IsAboveDot a → bytes_order (a ++ rest ps) [] ≡ Greater
no_name [] ps h = absurd h
no_name (x ∷ a) ps h = refl

pub printed_order : (ps qs : Parts) → AreAllAboveDot ps → AreAllAboveDot qs → bytes_order (dotted ps) (dotted qs) ≡ parts_order ps qs
printed_order [] [] h k = refl
printed_order [] (b ∷ qs) h k = first_name b qs k.0
printed_order (a ∷ ps) [] h k = no_name a ps h.0
printed_order (a ∷ ps) (b ∷ qs) h k =
    name_first a b ps qs (bytes_above a h.0) (bytes_above b k.0) ∙ ap (ordering_then (bytes_order a b)) (behind_dots ps qs h.1 k.1)
