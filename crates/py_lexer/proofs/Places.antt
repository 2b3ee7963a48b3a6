-- How far characters move a place.
use Rattle.std.proofs.Common.{◌≡◌, ℕ, ◌+◌, ◌≤◌, Bool, true, false, cond, eqb, ap, List, [], ◌∷◌, length, arith}
use Rattle.std.proofs.lemmas.Bool.{or_parts}
use Rattle.std.specs.List.{list_any}
use Rattle.py_literals.specs.declared.place.Pos.{Pos}
use Rattle.py_literals.specs.Place.{past, after}
use Rattle.py_lexer.specs.Chars.{is_line_end}

line_if : (at : Pos) (b : Bool) → (cond {A = Pos} b (record { line = at.line + 1; col = 1 }) (record { line = at.line; col = at.col + 1 })).line ≤ at.line + 1
line_if at true = omega arith
line_if at false = omega arith

col_if : (at : Pos) (b : Bool) → (cond {A = Pos} b (record { line = at.line + 1; col = 1 }) (record { line = at.line; col = at.col + 1 })).col ≤ at.col + 1
col_if at true = omega arith
col_if at false = omega arith

pub after_line : (at : Pos) (cs : List ℕ) → (after at cs).line ≤ at.line + length cs
after_line at [] = omega arith
after_line at (c ∷ cs) = omega (arith, line_if at (eqb c 10), after_line (past at c) cs)

pub after_col : (at : Pos) (cs : List ℕ) → (after at cs).col ≤ at.col + length cs
after_col at [] = omega arith
after_col at (c ∷ cs) = omega (arith, col_if at (eqb c 10), after_col (past at c) cs)

-- a place moves by as many columns as there are characters in a line
pub after_in_line : (at : Pos) (cs : List ℕ) → list_any is_line_end cs ≡ false → after at cs ≡ record { line = at.line; col = at.col + length cs }
after_in_line at [] none =
    let e : at.col ≡ at.col + 0 = omega arith in
    ap (λ (n : ℕ). record { line = at.line; col = n }) e
after_in_line at (c ∷ cs) none =
    let parts = or_parts (is_line_end c) (list_any is_line_end cs) none in
    let e : (at.col + 1) + length cs ≡ at.col + length (c ∷ cs) = omega arith in
    rw (parts.0, after_in_line (record { line = at.line; col = at.col + 1 }) cs parts.1) (ap (λ (n : ℕ). record { line = at.line; col = n }) e)
