-- What begins simple statements.
use Rattle.std.proofs.Common.{◌≡◌, ℕ, Bool, true, false, ◌||◌, List, [], ◌∷◌, ◌++◌, refl}
use Rattle.phrases.specs.Sets.{has}
use Rattle.py_ast.specs.Grammar.{expr_first}
use Rattle.py_ast.specs.Statements.{word_codes, return_first, simple_first}

or_assoc : (a b c : Bool) → (a || (b || c)) ≡ ((a || b) || c)
or_assoc true b c = refl
or_assoc false b c = refl

pub has_append : (xs ys : List ℕ) (k : ℕ) → has (xs ++ ys) k ≡ (has xs k || has ys k)
has_append [] ys k = refl
has_append (x ∷ xs) ys k = rw (has_append xs ys k) (or_assoc _ (has xs k) (has ys k))

pub simple_first_has : (returns loops : Bool) (k : ℕ) → has (simple_first returns loops) k ≡ (has expr_first k || (has (word_codes loops) k || has (return_first returns) k))
simple_first_has returns loops k = rw (has_append expr_first (word_codes loops ++ return_first returns) k, has_append (word_codes loops) (return_first returns) k) refl
