-- Bytes on their way from a source into a buffer.
use Rattle.std.specs.Prelude.{◌≡◌, ◌↔◌, ℕ, List, [], ◌∷◌, ◌++◌, Option, IfSome}
use Rattle.std.specs.Io.KnownBytes.{Consumes}

-- What the source lost at its front is what the buffer gained at its end.
abbrev pub Moves : Option (List ℕ) → Option (List ℕ) → List ℕ → List ℕ → Type 0
Moves left_old left_new buf_old buf_new = (bytes : List ℕ) × (buf_new ≡ buf_old ++ bytes) × Consumes left_old left_new bytes

-- The source lost one byte.
abbrev pub LosesOne : Option (List ℕ) → Option (List ℕ) → Type 0
LosesOne left_old left_new = (byte : ℕ) × Consumes left_old left_new (byte ∷ [])

-- Where the source tells the bytes that are left, a read that gave n of them gave none exactly where none was left.
abbrev pub TellsEnd : Option (List ℕ) → ℕ → Type 0
TellsEnd left n = IfSome left (λ bytes. (n ≡ 0) ↔ (bytes ≡ []))
