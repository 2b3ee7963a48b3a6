-- Texts one after the other.
use Rattle.std.specs.Prelude.{ℕ, zero, suc, ◌+◌, List, [], ◌++◌}

-- the texts `f first`, `f (first + 1)` and so on, `count` of them, one after the other
unfoldable pub joined : (ℕ → List ℕ) → ℕ → ℕ → List ℕ
joined f first zero = []
joined f first (suc count) = joined f first count ++ f (first + count)
