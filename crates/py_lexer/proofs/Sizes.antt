-- Each piece leaves less to read.
use Rattle.std.proofs.Common.{◌≡◌, ℕ, zero, suc, ◌+◌, ◌-◌, ◌*◌, ◌<◌, ◌≤◌, Bool, true, false, cond, nat_lt, ap, List, [], ◌∷◌, length, drop, Option, Some, None, refl, arith}
use Rattle.std.specs.Prelude.{encode_utf8_all}
use Rattle.std.proofs.lemmas.Bool.Decides.{nat_tests}
use Rattle.unicode_normalization.specs.Forms.{is_in_form, Nfkc}
use Rattle.rv_names.specs.Identifier.{is_identifier_continue}
use Rattle.py_literals.specs.declared.place.Pos.{Pos}
use Rattle.py_literals.specs.declared.number.NumberFront.{NumberFront}
use Rattle.py_literals.specs.declared.number.NumberValue.{NumberValue}
use Rattle.py_literals.specs.declared.number.NumberValue.TheVariants as numbers
use Rattle.py_literals.specs.Number as literals
use Rattle.py_lexer.specs.declared.operators.Operator.{Operator}
use Rattle.py_lexer.specs.declared.piece.Lexeme.{Lexeme}
use Rattle.py_lexer.specs.declared.piece.Lexeme.TheVariants.{Spelled, Refused}
use Rattle.py_lexer.specs.declared.token.Kind.{Kind}
use Rattle.py_lexer.specs.declared.token.Kind.TheVariants as kinds
use Rattle.py_lexer.specs.declared.token.Value.TheVariants as values
use Rattle.py_lexer.specs.declared.token.LexKind.TheVariants.{NotNormal, BadNumber}
use Rattle.py_lexer.specs.declared.state.Mode.{Mode}
use Rattle.py_lexer.specs.declared.state.Mode.TheVariants as modes
use Rattle.py_lexer.specs.declared.state.State.{State}
use Rattle.py_lexer.specs.Front.{Front, Found, Passed, Bad, Unclosed, Over, front_of_lexeme}
use Rattle.py_lexer.specs.Words.{next_is, word_by, word, number_of, number_by, number}
use Rattle.py_lexer.specs.Inside.{bracketed, is_opening, is_closing, operator_by}
use Rattle.py_lexer.specs.Operators.{operator_or, longest_operator, sign, two_signs, three_signs}

abbrev pub rank : Mode → ℕ
rank modes.LineStart = 3
rank (modes.Indented column) = 2
rank modes.Inside = 0
rank (modes.Literal kind beyond) = 0
rank (modes.Field kind beyond) = 0

-- the last line has to end yet
abbrev pub unended : Mode → ℕ
unended modes.LineStart = 0
unended (modes.Indented column) = 1
unended modes.Inside = 1
unended (modes.Literal kind beyond) = 1
unended (modes.Field kind beyond) = 1

-- what is left to read with n characters: they, open blocks, and an indentation
abbrev pub size_by : ℕ → State → ℕ
size_by zero s = length s.blocks + unended s.mode
size_by (suc n) s = 5 * n + 5 + length s.blocks + rank s.mode

abbrev pub size : State → List ℕ → ℕ
size s cs = size_by (length cs) s

rank_small : (m : Mode) → rank m ≤ 3
rank_small modes.LineStart = omega arith
rank_small (modes.Indented column) = omega arith
rank_small modes.Inside = omega arith
rank_small (modes.Literal kind beyond) = omega arith
rank_small (modes.Field kind beyond) = omega arith

unended_small : (m : Mode) → unended m ≤ 1
unended_small modes.LineStart = omega arith
unended_small (modes.Indented column) = omega arith
unended_small modes.Inside = omega arith
unended_small (modes.Literal kind beyond) = omega arith
unended_small (modes.Field kind beyond) = omega arith

pub size_below : (n : ℕ) (s : State) → size_by n s ≤ 5 * n + length s.blocks + 3
size_below zero s = omega (arith, unended_small s.mode)
size_below (suc n) s = omega (arith, rank_small s.mode)

pub size_some : (n : ℕ) (s : State) → 0 < n → size_by n s ≡ 5 * n + length s.blocks + rank s.mode
size_some zero s h = absurd (omega arith)
size_some (suc n) s h = omega arith

-- m characters are left where s is open
abbrev pub Shrinks : ℕ → State → Front → Type 0
Shrinks m s (Found n k v t) = size_by (m - n) t < size_by m s
Shrinks m s (Passed n t) = size_by (m - n) t < size_by m s
Shrinks m s (Bad k n) = Unit {0}
Shrinks m s (Unclosed at) = Unit {0}
Shrinks m s Over = Unit {0}

pub shrinks_if : (m : ℕ) (s : State) (b : Bool) (f g : Front) → Shrinks m s f → Shrinks m s g → Shrinks m s (cond b f g)
shrinks_if m s true f g h k = h
shrinks_if m s false f g h k = k

-- some characters are taken, and no block is opened
pub ahead : (j n : ℕ) (s t : State) → 0 < n → length t.blocks ≤ length s.blocks → size_by (suc j - n) t < size_by (suc j) s
ahead j n s t some blocks = omega (arith, size_below (suc j - n) t)

abbrev pub IsSome : Lexeme → Type 0
IsSome (Spelled n k v) = 0 < n
IsSome (Refused k n) = Unit {0}

pub some_if : (b : Bool) (f g : Lexeme) → IsSome f → IsSome g → IsSome (cond b f g)
some_if true f g h k = h
some_if false f g h k = k

pub shrinks_lexeme : (j : ℕ) (s : State) (l : Lexeme) → IsSome l → Shrinks (suc j) s (front_of_lexeme l s)
shrinks_lexeme j s (Spelled n k v) h = ahead j n s s h (omega arith)
shrinks_lexeme j s (Refused k n) h = tt

-- words and numbers

word_by_some : (n : ℕ) (text : List ℕ) (k : Option Kind) → 0 < n → IsSome (word_by n text k)
word_by_some n text (Some k) h = h
word_by_some n text None h = some_if (is_in_form Nfkc text) (Spelled n kinds.Name (values.Name (encode_utf8_all text))) (Refused NotNormal 0) h tt

pub word_some : (c : ℕ) (cs : List ℕ) → IsSome (word (c ∷ cs))
word_some c cs = word_by_some _ _ _ (omega arith)

number_of_some : (n : ℕ) (v : NumberValue) → 0 < n → IsSome (number_of n v)
number_of_some n (numbers.Whole v) h = h
number_of_some n numbers.Wide h = tt
number_of_some n numbers.Float h = h

abbrev pub FrontIsSome : Option NumberFront → Type 0
FrontIsSome None = Unit {0}
FrontIsSome (Some front) = 0 < front.len

number_by_some : (cs : List ℕ) (front : Option NumberFront) → FrontIsSome front → IsSome (number_by cs front)
number_by_some cs None h = tt
number_by_some cs (Some front) h =
    some_if (next_is is_identifier_continue (drop front.len cs)) (Refused BadNumber 0) (number_of front.len front.value) tt (number_of_some front.len front.value h)

front_if : (n : ℕ) (v : NumberValue) (b : Bool) → nat_lt 0 n ≡ b → FrontIsSome (cond b (Some (record { len = n; value = v })) None)
front_if n v true e = grind (arith, nat_tests)
front_if n v false e = tt

pub number_some : (cs : List ℕ) → IsSome (number cs)
number_some cs = number_by_some cs (literals.number cs) (front_if (literals.number_len cs) (literals.number_value cs) (nat_lt 0 (literals.number_len cs)) refl)

-- operators

abbrev pub OperatorIsSome : Option Operator → Type 0
OperatorIsSome None = Unit {0}
OperatorIsSome (Some o) = 0 < o.len

operator_or_some : (n : ℕ) (k : Option Kind) (o : Option Operator) → 0 < n → OperatorIsSome o → OperatorIsSome (operator_or n k o)
operator_or_some n (Some k) o h g = h
operator_or_some n None o h g = g

pub longest_operator_some : (cs : List ℕ) → OperatorIsSome (longest_operator cs)
longest_operator_some [] = tt
longest_operator_some (a ∷ []) = operator_or_some 1 (sign a) None (omega arith) tt
longest_operator_some (a ∷ b ∷ []) = operator_or_some 2 (two_signs a b) _ (omega arith) (operator_or_some 1 (sign a) None (omega arith) tt)
longest_operator_some (a ∷ b ∷ c ∷ cs) =
    operator_or_some 3 (three_signs a b c) _ (omega arith) (operator_or_some 2 (two_signs a b) _ (omega arith) (operator_or_some 1 (sign a) None (omega arith) tt))

blocks_if : (s t u : State) (b : Bool) → t.blocks ≡ s.blocks → u.blocks ≡ s.blocks → (cond b t u).blocks ≡ s.blocks
blocks_if s t u true h k = h
blocks_if s t u false h k = k

bracketed_blocks : (at : Pos) (s : State) (c : ℕ) → (bracketed at s c).blocks ≡ s.blocks
bracketed_blocks at s c = blocks_if s _ _ (is_opening c) refl (blocks_if s _ _ (is_closing c) refl refl)

pub operator_shrinks : (j : ℕ) (at : Pos) (s : State) (c : ℕ) (o : Option Operator) → OperatorIsSome o → Shrinks (suc j) s (operator_by at s c o)
operator_shrinks j at s c None h = tt
operator_shrinks j at s c (Some o) h = ahead j o.len s (bracketed at s c) h (omega (arith, ap length (bracketed_blocks at s c)))
