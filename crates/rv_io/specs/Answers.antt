-- What an answer of `read_more` says.
use Rattle.std.specs.Prelude.{◌≤◌, ℕ, ⊤}
use Rattle.rv_io.specs.declared.transfer.More.{More}
use Rattle.rv_io.specs.declared.transfer.More.TheVariants.{Bytes, End}

-- how many bytes were appended
abbrev pub count_of : More → ℕ
count_of (Bytes n) = n
count_of End = 0

-- a piece has at least one byte, and at most 65,536
abbrev pub IsPiece : More → Type 0
IsPiece (Bytes n) = (1 ≤ n) × (n ≤ 65536)
IsPiece End = ⊤
