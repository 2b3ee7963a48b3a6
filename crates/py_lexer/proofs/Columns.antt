-- Whether a column is on the stack, from either end.
use Rattle.std.proofs.Common.{◌≡◌, ℕ, Bool, true, false, ◌||◌, ◌==◌, List, [], ◌∷◌, refl, sym, ◌∙◌, arith}
use Rattle.std.specs.Prelude.{reverse}
use mathlib.Core.List.{reverse_aux}
use Rattle.std.specs.List.{list_any}
use Rattle.py_lexer.specs.Stack.{has_column}

has_column_aux : (xs ys : List ℕ) (n : ℕ) → has_column (reverse_aux xs ys) n ≡ list_any (λ y. y == n) xs || has_column ys n
has_column_aux [] ys n = refl
has_column_aux (x ∷ xs) ys n = grind (arith, has_column_aux xs (x ∷ ys) n)

or_false : (b : Bool) → b || false ≡ b
or_false true = refl
or_false false = refl

pub has_column_reverse : (xs : List ℕ) (n : ℕ) → list_any (λ y. y == n) xs ≡ has_column (reverse xs) n
has_column_reverse xs n = sym (has_column_aux xs [] n ∙ or_false (list_any (λ y. y == n) xs))
