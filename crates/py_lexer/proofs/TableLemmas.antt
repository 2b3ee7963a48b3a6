-- What the tables over ASCII give.
use Rattle.std.proofs.Common.{◌≡◌, ℕ, zero, suc, ◌+◌, ◌<◌, ◌||◌, ◌==◌, Bool, if◌then◌else◌, List, [], ◌∷◌, slice_index_or, get_or, false, refl, sym, ap, ◌∙◌, arith}
use Rattle.std.specs.Char.{is_ascii_alphabetic, is_ascii_alphanumeric}
use Rattle.rv_names.specs.Identifier.{is_identifier_continue}
use Rattle.py_lexer.specs.declared.chars.Class.{Class}
use Rattle.py_lexer.specs.declared.chars.Class.TheVariants.{White, LineEnd, Comment, Backslash, Quote, Digit, Dot, Letter, Sign}
use Rattle.py_lexer.specs.declared.chars.TheConstants.{CLASSES, CONTINUES}
use Rattle.py_lexer.specs.declared.operators.TheConstants.{SIGNS}
use Rattle.py_lexer.specs.declared.token.Kind.{Kind}
use Rattle.py_lexer.specs.declared.token.Kind.TheVariants as kinds
use Rattle.py_lexer.specs.Chars.{is_white, is_line_end, is_quote, is_digit, class_of}
use Rattle.py_lexer.specs.Operators.{sign, kind_or_newline}
use Rattle.py_lexer.proofs.CharLemmas.{start_ascii, continue_ascii}

-- what a function gives at n numbers from i on
abbrev values_from : {X : Type 0} → (ℕ → X) → ℕ → ℕ → List X
values_from f i zero = []
values_from f i (suc n) = f i ∷ values_from f (suc i) n

value_at : {X : Type 0} (f : ℕ → X) (d : X) (i n k : ℕ) → k < n → get_or (values_from f i n) k d ≡ f (i + k)
value_at f d i zero k lt = absurd (omega arith)
value_at f d i (suc n) zero lt = let e : i ≡ i + 0 = omega arith in ap f e
value_at f d i (suc n) (suc k) lt =
    let e : suc i + k ≡ i + suc k = omega arith in
    value_at f d (suc i) n k (omega arith) ∙ ap f e

value_from_zero : {X : Type 0} (f : ℕ → X) (d : X) (n k : ℕ) → k < n → get_or (values_from f 0 n) k d ≡ f k
value_from_zero f d n k lt = let e : 0 + k ≡ k = omega arith in value_at f d 0 n k lt ∙ ap f e

-- the class of a character of ASCII
abbrev ascii_class : ℕ → Class
ascii_class c =
    if is_white c then White else (
    if is_line_end c then LineEnd else (
    if c == 35 then Comment else (
    if c == 92 then Backslash else (
    if is_quote c then Quote else (
    if is_digit c then Digit else (
    if c == 46 then Dot else (
    if is_ascii_alphabetic c || (c == 95) then Letter else Sign)))))))

class_ascii : (c : ℕ) → c < 128 → class_of c ≡ ascii_class c
class_ascii c low = rw (start_ascii c low) refl

pub class_found : (c : ℕ) → c < 128 → slice_index_or CLASSES c White ≡ class_of c
class_found c low =
    value_from_zero ascii_class White 128 c low ∙ sym (class_ascii c low)

abbrev ascii_continues : ℕ → Bool
ascii_continues c = is_ascii_alphanumeric c || (c == 95)

pub continues_found : (c : ℕ) → c < 128 → slice_index_or CONTINUES c false ≡ is_identifier_continue c
continues_found c low =
    value_from_zero ascii_continues false 128 c low ∙ sym (continue_ascii c low)

abbrev kind_at : ℕ → Kind
kind_at c = kind_or_newline (sign c)

pub sign_found : (c : ℕ) → c < 128 → slice_index_or SIGNS c kinds.Newline ≡ kind_or_newline (sign c)
sign_found c low =
    value_from_zero kind_at kinds.Newline 128 c low
