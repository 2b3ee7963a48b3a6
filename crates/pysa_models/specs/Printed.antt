-- Qualified names as they are printed, with a dot between two of their names.
use Rattle.std.specs.Prelude.{◌<◌, [], ◌∷◌}
use Rattle.rv_names.specs.Keys.{Bytes, Parts}

abbrev pub AreAboveDot : Bytes → Type 0
AreAboveDot [] = Unit {0}
AreAboveDot (x ∷ xs) = (46 < x) × AreAboveDot xs

-- There is a first byte, and each byte is above the dot, as in every identifier: digits, letters and `_` are above it, and so
-- is every byte outside ASCII.
abbrev pub IsAboveDot : Bytes → Type 0
IsAboveDot [] = ⊥
IsAboveDot (x ∷ xs) = (46 < x) × AreAboveDot xs

abbrev pub AreAllAboveDot : Parts → Type 0
AreAllAboveDot [] = Unit {0}
AreAllAboveDot (n ∷ ns) = IsAboveDot n × AreAllAboveDot ns
