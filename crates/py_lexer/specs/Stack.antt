-- The columns of the open blocks and the places of the open brackets, the innermost first.
use Rattle.std.specs.Prelude.{ℕ, Bool, false, ◌||◌, ◌==◌, List, [], ◌∷◌, Option, Some, None}

-- the column of the innermost open block
abbrev pub top : List ℕ → ℕ
top [] = 0
top (c ∷ cs) = c

-- a block of column n is open
abbrev pub has_column : List ℕ → ℕ → Bool
has_column [] n = false
has_column (c ∷ cs) n = (c == n) || has_column cs n

-- the innermost one
abbrev pub innermost : {X : Type 0} → List X → Option X
innermost [] = None
innermost (x ∷ xs) = Some x
