-- What clauses see of texts, names and qualified names, and how they are compared.
use Rattle.std.specs.Prelude.{ℕ, Bool, List, [], ◌∷◌, ◌++◌, ◌==◌}
use Rattle.std.specs.List.{flat_map}
use Rattle.std.specs.Cmp.Lexicographic.{pointwise, slice_cmp}
use Rattle.std.specs.Ordering.{nat_cmp}
use Rattle.std.specs.declared.cmp.Ordering.{Ordering}

-- the bytes of a text, or of a name
abbrev pub Bytes : Type 0
Bytes = List ℕ

-- the names of a qualified name, the outermost first
abbrev pub Parts : Type 0
Parts = List Bytes

-- texts and names: equal where their bytes are
abbrev pub bytes_equal : Bytes → Bytes → Bool
bytes_equal = pointwise ◌==◌

-- and ordered by the first byte that differs, a text before one that it begins
abbrev pub bytes_order : Bytes → Bytes → Ordering
bytes_order = slice_cmp nat_cmp

-- qualified names: equal where their names are
abbrev pub parts_equal : Parts → Parts → Bool
parts_equal = pointwise bytes_equal

-- and ordered by the first name that differs
abbrev pub parts_order : Parts → Parts → Ordering
parts_order = slice_cmp bytes_order

-- a dot and the name
abbrev pub after_dot : Bytes → Bytes
after_dot name = 46 ∷ name

-- the names with a dot between two of them
abbrev pub dotted : Parts → Bytes
dotted [] = []
dotted (name ∷ names) = name ++ flat_map after_dot names
