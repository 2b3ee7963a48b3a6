-- Trees as finite maps from a spot to a distance: what stands in a tree, and the order, in which a smaller distance is more.
use Rattle.std.specs.Prelude.{◌≡◌, ℕ, ◌≤◌, List, [], ◌∷◌, Option, Some, None, min, IsTrue}
use Rattle.std.specs.FinMap.{FinMap, empty, get, insert, is_sorted}
use Rattle.path_trees.specs.declared.spots.Spot.{Spot}
use Rattle.path_trees.specs.declared.spots.Entry.{Entry}
use Rattle.path_trees.specs.Spots.{spot_order, IsHeldSpot}

-- a finite map from spots to distances
abbrev pub TreeMap : Type 0
TreeMap = FinMap spot_order ℕ

-- a distance is there, and not greater than d
abbrev pub IsWithin : Option ℕ → ℕ → Type 0
IsWithin None d = ⊥
IsWithin (Some n) d = n ≤ d

-- the tree has a distance at the spot that is not greater than d
abbrev pub Stands : TreeMap → Spot → ℕ → Type 0
Stands t s d = IsWithin (get t s) d

-- whatever stands in the one stands in the other
pub record Below (t u : TreeMap) : Type 0 where
  pub at : (s : Spot) (d : ℕ) → Stands t s d → Stands u s d

-- the lesser of a distance and one that may be there
abbrev pub lesser : ℕ → Option ℕ → ℕ
lesser d None = d
lesser d (Some n) = min d n

-- the tree, and a distance at a spot, of which the least counts
abbrev pub with_entry : TreeMap → Spot → ℕ → TreeMap
with_entry t s d = insert t s (lesser d (get t s))

-- the least distance at each spot of a list
abbrev pub least_of : List (Spot × ℕ) → TreeMap
least_of [] = empty
least_of (e ∷ es) = with_entry (least_of es) e.0 e.1

-- entries as spots with their distances
abbrev pub pairs_of : List Entry → List (Spot × ℕ)
pairs_of [] = []
pairs_of (e ∷ es) = (e.spot, e.distance) ∷ pairs_of es

-- a tree that a program can hold: distances are at most 63
pub record IsHeldTree (t : TreeMap) : Type 0 where
  pub spots : (s : Spot) (d : ℕ) → get t s ≡ Some d → IsHeldSpot s
  pub near : (s : Spot) (d : ℕ) → get t s ≡ Some d → d ≤ 63

-- the spots and distances of entries are such
abbrev pub AreHeld : List Entry → Type 0
AreHeld [] = Unit {0}
AreHeld (e ∷ es) = IsHeldSpot e.spot × (e.distance ≤ 63) × AreHeld es

-- what the entries of a tree are: in strict order of their spots
pub record IsTree (es : List Entry) : Type 0 where
  pub rising : IsTrue (is_sorted spot_order (pairs_of es))
  pub held : AreHeld es

-- no distance is greater than 63
abbrev pub AreNear : List Entry → Type 0
AreNear [] = Unit {0}
AreNear (e ∷ es) = (e.distance ≤ 63) × AreNear es
