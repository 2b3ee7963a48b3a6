-- Characters and bytes that are the same word of ASCII.
use Rattle.std.specs.Prelude.{ℕ, Bool, true, false, List, [], ◌∷◌, ◌&&◌, ◌==◌, nat_lt}

-- the bytes are all of ASCII, and are the characters
abbrev pub is_spelled : List ℕ → List ℕ → Bool
is_spelled [] [] = true
is_spelled [] (b ∷ bs) = false
is_spelled (c ∷ cs) [] = false
is_spelled (c ∷ cs) (b ∷ bs) = (nat_lt b 128 && (c == b)) && is_spelled cs bs

abbrev pub is_ascii : ℕ → Bool
is_ascii c = nat_lt c 128
