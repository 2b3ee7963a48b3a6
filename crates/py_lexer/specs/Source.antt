-- A text as its lexical analysis reads it (Language Reference, 2.1.2 and 2.1.4).
use Rattle.std.specs.Prelude.{ℕ, Bool, true, false, List, [], ◌∷◌, ◌&&◌, ◌==◌, not, nat_lt, if◌then◌else◌}

-- each line end, CR LF, CR or LF, as one LF: an LF behind a CR belongs to it
abbrev pub line_ends : Bool → List ℕ → List ℕ
line_ends behind_cr [] = []
line_ends behind_cr (c ∷ cs) =
    if c == 13 then 10 ∷ line_ends true cs else (
    if behind_cr && (c == 10) then line_ends false cs else c ∷ line_ends false cs)

-- without the byte order mark at its start
abbrev pub without_mark : List ℕ → List ℕ
without_mark [] = []
without_mark (c ∷ cs) = if c == 0xFEFF then cs else c ∷ cs

abbrev pub source_chars : List ℕ → List ℕ
source_chars cs = line_ends false (without_mark cs)

-- a byte of ASCII other than CR is read as it is, wherever it stands
abbrev pub is_plain : ℕ → Bool
is_plain c = nat_lt c 128 && not (c == 13)
