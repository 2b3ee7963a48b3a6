-- Operators of one character, told by the character behind them.
use Rattle.std.proofs.Common.{◌≡◌, ℕ, ◌≤◌, false, List, [], ◌∷◌, length, get_or, Option, Some, None, refl, ap, arith}
use Rattle.std.proofs.lemmas.Bool.Decides.{nat_tests}
use Rattle.py_lexer.specs.declared.token.Kind.{Kind}
use Rattle.py_lexer.specs.declared.token.Kind.TheVariants.{Newline}
use Rattle.py_lexer.specs.Operators.{sign, kind_or_newline, two_signs, three_signs, operator_or, longest_operator, may_go_on}

not_two : (a b : ℕ) → may_go_on b ≡ false → two_signs a b ≡ None
not_two a b h = grind (arith, nat_tests)

not_three : (a b c : ℕ) → may_go_on b ≡ false → three_signs a b c ≡ None
not_three a b c h = grind (arith, nat_tests)

-- an operator with no second character
pub alone : (cs : List ℕ) → 2 ≤ length cs → may_go_on (get_or cs 1 0) ≡ false → longest_operator cs ≡ operator_or 1 (sign (get_or cs 0 0)) None
alone [] le h = grind arith
alone (a ∷ []) le h = grind arith
alone (a ∷ b ∷ []) le h = rw (not_two a b h) refl
alone (a ∷ b ∷ c ∷ cs) le h = rw (not_three a b c h, not_two a b h) refl

-- a kind that isn't that of a line end is an operator's
pub kind_found : (o : Option Kind) (k : Kind) → k ≡ kind_or_newline o → (k ≡ Newline → ⊥) → Some k ≡ o
kind_found None k e other = absurd (other e)
kind_found (Some j) k e other = ap Some e
