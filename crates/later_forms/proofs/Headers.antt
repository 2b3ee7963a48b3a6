-- The tokens before the colon that ends a line, one after the other.
use Rattle.std.proofs.Common.{◌≡◌, ℕ, ◌+◌, true, false, ◌&&◌, List, [], ◌∷◌, Some, None, length, refl, arith}
use Rattle.py_lexer.specs.declared.token.Token.{Token}
use Rattle.later_forms.specs.declared.nesting.Nesting.{Nesting}
use Rattle.later_forms.specs.Nesting.{advanced}
use Rattle.later_forms.specs.Subjects.{is_colon, is_line_end, header_len, gone_over}

pub header_none : (tokens : List Token) → length tokens ≡ 0 → header_len tokens ≡ 0
unfolding header_len
header_none [] e = refl
header_none (t ∷ ts) e = absurd (omega arith)

pub header_end : (t : Token) (ts : List Token) → (is_colon t.kind && is_line_end ts) ≡ true → header_len (t ∷ ts) ≡ 0
unfolding header_len
header_end t ts e = rw (e, header_len) refl

pub header_on : (t : Token) (ts : List Token) → (is_colon t.kind && is_line_end ts) ≡ false → header_len (t ∷ ts) ≡ header_len ts + 1
unfolding header_len
header_on t ts e = rw (e, header_len) refl

pub gone_none : (at : ℕ) (tokens : List Token) → gone_over at None tokens ≡ None
unfolding gone_over
gone_none at [] = refl
gone_none at (t ∷ ts) = refl

pub gone_end : (at : ℕ) (n : Nesting) (tokens : List Token) → length tokens ≡ 0 → gone_over at (Some n) tokens ≡ Some n
unfolding gone_over
gone_end at n [] e = refl
gone_end at n (t ∷ ts) e = absurd (omega arith)

pub gone_on : (at : ℕ) (n : Nesting) (t : Token) (ts : List Token) → gone_over at (Some n) (t ∷ ts) ≡ gone_over (at + 1) (advanced true at t n) ts
unfolding gone_over
gone_on at n t ts = refl
