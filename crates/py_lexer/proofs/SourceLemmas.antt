-- One turn of the loop over the characters of a text.
use Rattle.std.proofs.Common.{◌≡◌, ℕ, suc, ◌+◌, ◌<◌, Bool, true, false, eqb, ◌&&◌, List, [], ◌∷◌, ◌++◌, length, drop, get_or, drop-cons, add-one, append_assoc, refl, arith}
use Rattle.py_lexer.specs.Source.{line_ends}

pub cr_turn : (before cs : List ℕ) (i : ℕ) (b : Bool) → i < length cs → get_or cs i 0 ≡ 13 → (before ++ 10 ∷ []) ++ line_ends true (drop (i + 1) cs) ≡ before ++ line_ends b (drop i cs)
cr_turn before cs i b h e = rw (add-one, drop-cons cs i 0, append_assoc, e) refl

pub lf_turn : (cs : List ℕ) (i : ℕ) → i < length cs → get_or cs i 0 ≡ 10 → line_ends false (drop (i + 1) cs) ≡ line_ends true (drop i cs)
lf_turn cs i h e = rw (add-one, drop-cons cs i 0, e) refl

pub other_turn : (before cs : List ℕ) (i : ℕ) (b : Bool) → i < length cs → eqb (get_or cs i 0) 13 ≡ false → (b && eqb (get_or cs i 0) 10) ≡ false → (before ++ get_or cs i 0 ∷ []) ++ line_ends false (drop (i + 1) cs) ≡ before ++ line_ends b (drop i cs)
other_turn before cs i b h e f = rw (add-one, drop-cons cs i 0, append_assoc, e, f) refl
