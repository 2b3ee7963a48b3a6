-- What stands at the front of a text is a gap, or the spelling of a token that is the longest possible: words, numbers, operators.
use Rattle.std.proofs.Common.{◌≡◌, ℕ, zero, suc, ◌+◌, ◌<◌, ◌≤◌, ◌^◌, Bool, true, false, cond, eqb, nat_lt, List, [], ◌∷◌, length, take, drop, Option, Some, None, inl, inr, refl, subst, pos, encode_utf8_all, arith}
use Rattle.std.specs.List.{prefix_len, list_all}
use Rattle.std.proofs.lemmas.Bool.{cases_Bool, and_parts, ltb-true}
use Rattle.std.proofs.lemmas.List.Sums.{prefix_len-le-length}
use Rattle.unicode_normalization.specs.Forms.{is_in_form, Nfkc}
use Rattle.unicode_normalization.proofs.FormsLemmas.{is_in_form-true}
use Rattle.rv_names.specs.Identifier.{is_spelled_as_identifier, is_identifier_start, is_identifier_continue}
use Rattle.py_literals.specs.declared.number.NumberValue.{NumberValue}
use Rattle.py_literals.specs.declared.number.NumberValue.TheVariants as numbers
use Rattle.py_literals.specs.Grammar.{IsNumber}
use Rattle.py_literals.specs.Number as literals
use Rattle.py_literals.proofs.Longest.{longest_number}
use Rattle.py_lexer.specs.declared.operators.Operator.{Operator}
use Rattle.py_lexer.specs.declared.piece.Lexeme.{Lexeme}
use Rattle.py_lexer.specs.declared.piece.Lexeme.TheVariants.{Spelled, Refused}
use Rattle.py_lexer.specs.declared.token.Kind.{Kind}
use Rattle.py_lexer.specs.declared.token.Kind.TheVariants as kinds
use Rattle.py_lexer.specs.declared.token.Value.{Value}
use Rattle.py_lexer.specs.declared.token.Value.TheVariants as values
use Rattle.py_lexer.specs.declared.token.LexKind.TheVariants.{NotNormal, BadNumber}
use Rattle.py_lexer.specs.declared.state.State.{State}
use Rattle.py_lexer.specs.Keywords.{keyword_of}
use Rattle.py_lexer.specs.Operators.{sign, two_signs, three_signs, operator_or, longest_operator}
use Rattle.py_lexer.specs.Front.{Front, Found, Passed, Bad, Unclosed, Over, front_of_lexeme}
use Rattle.py_lexer.specs.Words.{next_is, word_by, word_len, word, number_of, number_by, number}
use Rattle.py_lexer.specs.Layout.{IsGap, TokenClass, Words, Numbers, Operators, Spells, keyword, name, whole, floating, operator, operator_of, HasNoLonger, IsLongest}
use Rattle.py_lexer.proofs.WordLemmas.{spelled_front}

-- n characters of cs are a token, and the longest possible one
pub record Fits (k : Kind) (v : Value) (cs : List ℕ) (n : ℕ) : Type 0 where
  pub class : TokenClass
  pub spelled : Spells (drop n cs) class k v (take n cs)
  pub short : n ≤ length cs
  pub longest : IsLongest class cs n

abbrev pub Lies : List ℕ → Front → Type 0
Lies cs (Found n k v t) = Fits k v cs n
Lies cs (Passed n t) = IsGap (drop n cs) (take n cs)
Lies cs (Bad k n) = Unit {0}
Lies cs (Unclosed at) = Unit {0}
Lies cs Over = cs ≡ []

pub lies_if : (cs : List ℕ) (b : Bool) (f g : Front) → (b ≡ true → Lies cs f) → (b ≡ false → Lies cs g) → Lies cs (cond b f g)
lies_if cs true f g h k = h refl
lies_if cs false f g h k = k refl

abbrev pub LexemeLies : List ℕ → Lexeme → Type 0
LexemeLies cs (Spelled n k v) = Fits k v cs n
LexemeLies cs (Refused k n) = Unit {0}

pub lexeme_if : (cs : List ℕ) (b : Bool) (f g : Lexeme) → (b ≡ true → LexemeLies cs f) → (b ≡ false → LexemeLies cs g) → LexemeLies cs (cond b f g)
lexeme_if cs true f g h k = h refl
lexeme_if cs false f g h k = k refl

pub lies_lexeme : (cs : List ℕ) (s : State) (l : Lexeme) → LexemeLies cs l → Lies cs (front_of_lexeme l s)
lies_lexeme cs s (Spelled n k v) h = h
lies_lexeme cs s (Refused k n) h = tt

-- words

-- a front whose characters pass is no longer than the longest
passes_short : (p : ℕ → Bool) (xs : List ℕ) (m : ℕ) → m ≤ length xs → list_all p (take m xs) ≡ true → m ≤ prefix_len p xs
passes_short p xs zero h t = omega arith
passes_short p [] (suc m) h t = absurd (omega arith)
passes_short p (x ∷ xs) (suc m) h t =
    let a = and_parts (p x) (list_all p (take m xs)) t in
    let first : p x ≡ true = a.0 in
    let more : m ≤ prefix_len p xs = passes_short p xs m (omega arith) a.1 in
    rw first (omega arith)

pub word_longest : (c : ℕ) (cs : List ℕ) (m : ℕ) → 1 + prefix_len is_identifier_continue cs < m → m ≤ length (c ∷ cs) → is_spelled_as_identifier (take m (c ∷ cs)) ≡ true → ⊥
word_longest c cs zero l w h = omega arith
word_longest c cs (suc m) l w h =
    let a = and_parts (is_identifier_start c) (list_all is_identifier_continue (take m cs)) h in
    let more : m ≤ prefix_len is_identifier_continue cs = passes_short is_identifier_continue cs m (omega arith) a.1 in
    omega arith

word_by_lies : (cs : List ℕ) (n : ℕ) (k : Option Kind) → keyword_of (encode_utf8_all (take n cs)) ≡ k → is_spelled_as_identifier (take n cs) ≡ true → n ≤ length cs → HasNoLonger cs n → LexemeLies cs (word_by n (take n cs) k)
word_by_lies cs n (Some k) e i w l = record { class = Words; spelled = keyword i e; short = w; longest = l }
word_by_lies cs n None e i w l =
    lexeme_if cs (is_in_form Nfkc (take n cs)) (Spelled n kinds.Name (values.Name (encode_utf8_all (take n cs)))) (Refused NotNormal 0)
    (λ t. record { class = Words; spelled = name (record { spelled = i; normal = is_in_form-true Nfkc (take n cs) t }) e; short = w; longest = l })
    (λ t. tt)

pub word_lies : (c : ℕ) (cs : List ℕ) → is_identifier_start c ≡ true → HasNoLonger (c ∷ cs) (word_len (c ∷ cs)) → LexemeLies (c ∷ cs) (word (c ∷ cs))
word_lies c cs start l =
    word_by_lies (c ∷ cs) (word_len (c ∷ cs)) _ refl
    (spelled_front c (prefix_len is_identifier_continue cs) cs (c ∷ cs) _ refl refl refl start)
    (omega (arith, prefix_len-le-length is_identifier_continue cs)) l

-- numbers

whole_value : (cs : List ℕ) (x : ℕ) → literals.number_value cs ≡ numbers.Whole x → literals.integer_value (take (literals.number_len cs) cs) ≡ x
whole_value cs x e =
    let v = literals.integer_value (take (literals.number_len cs) cs) in
    elim (cases_Bool (eqb (literals.float_len cs) (literals.number_len cs))) [
      | inl t ↦ let w : literals.number_value cs ≡ numbers.Float = rw t refl in absurd (cc)
      | inr t ↦
          let w : literals.number_value cs ≡ literals.whole v = rw t refl in
          elim (cases_Bool (nat_lt v (2 ^ 127))) [
            | inl u ↦ let z : literals.whole v ≡ numbers.Whole v = rw u refl in cc
            | inr u ↦ let z : literals.whole v ≡ numbers.Wide = rw u refl in absurd (cc)
          ]
    ]

pub number_longest : (cs : List ℕ) (m : ℕ) → literals.number_len cs < m → m ≤ length cs → IsNumber (take m cs) → ⊥
number_longest cs m a b h = let l = (longest_number cs).longest m b h in omega arith

number_of_lies : (cs : List ℕ) (v : NumberValue) → literals.number_value cs ≡ v → 0 < literals.number_len cs → HasNoLonger cs (literals.number_len cs) → LexemeLies cs (number_of (literals.number_len cs) v)
number_of_lies cs (numbers.Whole x) e h none_longer =
    let l = longest_number cs in
    let other : literals.number_value cs ≡ numbers.Float → ⊥ = λ f. cc (e, f) in
    let i = l.integer h other in
    record {
      class = Numbers;
      spelled = subst (λ (y : ℕ). Spells (drop (literals.number_len cs) cs) Numbers kinds.Number (values.Whole (pos y)) (take (literals.number_len cs) cs)) (whole_value cs x e) (whole i);
      short = l.within;
      longest = none_longer;
    }
number_of_lies cs numbers.Wide e h none_longer = tt
number_of_lies cs numbers.Float e h none_longer =
    let l = longest_number cs in
    record { class = Numbers; spelled = floating (l.floating h e); short = l.within; longest = none_longer }

number_by_lies : (cs : List ℕ) (b : Bool) → nat_lt 0 (literals.number_len cs) ≡ b → (0 < literals.number_len cs → HasNoLonger cs (literals.number_len cs)) → LexemeLies cs (number_by cs (cond b (Some (record { len = literals.number_len cs; value = literals.number_value cs })) None))
number_by_lies cs true e l =
    lexeme_if cs (next_is is_identifier_continue (drop (literals.number_len cs) cs)) (Refused BadNumber 0) (number_of (literals.number_len cs) (literals.number_value cs))
    (λ t. tt)
    (λ t. let some = ltb-true 0 (literals.number_len cs) e in number_of_lies cs (literals.number_value cs) refl some (l some))
number_by_lies cs false e l = tt

pub number_lies : (cs : List ℕ) → (0 < literals.number_len cs → HasNoLonger cs (literals.number_len cs)) → LexemeLies cs (number cs)
number_lies cs l = number_by_lies cs (nat_lt 0 (literals.number_len cs)) refl l

-- operators

pub record OperatorFits (cs : List ℕ) (o : Operator) : Type 0 where
  pub is : operator_of (take o.len cs) ≡ Some o.kind
  pub short : o.len ≤ length cs
  pub longest : (m : ℕ) → o.len < m → m ≤ length cs → operator_of (take m cs) ≡ None

abbrev pub OperatorsFit : List ℕ → Option Operator → Type 0
OperatorsFit cs None = Unit {0}
OperatorsFit cs (Some o) = OperatorFits cs o

one_fits : (a : ℕ) (k : Option Kind) → sign a ≡ k → OperatorsFit (a ∷ []) (operator_or 1 k None)
one_fits a None e = tt
one_fits a (Some k) e = record { is = e; short = omega arith; longest = λ m h g. absurd (omega arith) }

two_fit : (a b : ℕ) (k l : Option Kind) → two_signs a b ≡ k → sign a ≡ l → OperatorsFit (a ∷ b ∷ []) (operator_or 2 k (operator_or 1 l None))
two_fit a b (Some k) l e f = record { is = e; short = omega arith; longest = λ m h g. absurd (omega arith) }
two_fit a b None (Some l) e f = record { is = f; short = omega arith; longest = λ m h g. let same : m ≡ 2 = omega arith in rw same e }
two_fit a b None None e f = tt

no_four : (a b c : ℕ) (cs : List ℕ) (m : ℕ) → 3 < m → m ≤ length (a ∷ b ∷ c ∷ cs) → operator_of (take m (a ∷ b ∷ c ∷ cs)) ≡ None
no_four a b c [] m h g = absurd (omega arith)
no_four a b c (d ∷ ds) zero h g = absurd (omega arith)
no_four a b c (d ∷ ds) (suc zero) h g = absurd (omega arith)
no_four a b c (d ∷ ds) (suc (suc zero)) h g = absurd (omega arith)
no_four a b c (d ∷ ds) (suc (suc (suc zero))) h g = absurd (omega arith)
no_four a b c (d ∷ ds) (suc (suc (suc (suc m)))) h g = refl

no_three : (a b c : ℕ) (cs : List ℕ) → three_signs a b c ≡ None → (m : ℕ) → 2 < m → m ≤ length (a ∷ b ∷ c ∷ cs) → operator_of (take m (a ∷ b ∷ c ∷ cs)) ≡ None
no_three a b c cs e zero h g = absurd (omega arith)
no_three a b c cs e (suc zero) h g = absurd (omega arith)
no_three a b c cs e (suc (suc zero)) h g = absurd (omega arith)
no_three a b c cs e (suc (suc (suc zero))) h g = e
no_three a b c cs e (suc (suc (suc (suc m)))) h g = no_four a b c cs (suc (suc (suc (suc m)))) (omega arith) g

no_two : (a b c : ℕ) (cs : List ℕ) → three_signs a b c ≡ None → two_signs a b ≡ None → (m : ℕ) → 1 < m → m ≤ length (a ∷ b ∷ c ∷ cs) → operator_of (take m (a ∷ b ∷ c ∷ cs)) ≡ None
no_two a b c cs e f zero h g = absurd (omega arith)
no_two a b c cs e f (suc zero) h g = absurd (omega arith)
no_two a b c cs e f (suc (suc zero)) h g = f
no_two a b c cs e f (suc (suc (suc m))) h g = no_three a b c cs e (suc (suc (suc m))) (omega arith) g

three_fit : (a b c : ℕ) (cs : List ℕ) (k l n : Option Kind) → three_signs a b c ≡ k → two_signs a b ≡ l → sign a ≡ n → OperatorsFit (a ∷ b ∷ c ∷ cs) (operator_or 3 k (operator_or 2 l (operator_or 1 n None)))
three_fit a b c cs (Some k) l n e f g = record { is = e; short = omega arith; longest = no_four a b c cs }
three_fit a b c cs None (Some l) n e f g = record { is = f; short = omega arith; longest = no_three a b c cs e }
three_fit a b c cs None None (Some n) e f g = record { is = g; short = omega arith; longest = no_two a b c cs e f }
three_fit a b c cs None None None e f g = tt

pub operators_fit : (cs : List ℕ) → OperatorsFit cs (longest_operator cs)
operators_fit [] = tt
operators_fit (a ∷ []) = one_fits a (sign a) refl
operators_fit (a ∷ b ∷ []) = two_fit a b (two_signs a b) (sign a) refl refl
operators_fit (a ∷ b ∷ c ∷ cs) = three_fit a b c cs (three_signs a b c) (two_signs a b) (sign a) refl refl refl

pub operator_found : (cs : List ℕ) (o : Operator) → OperatorFits cs o → HasNoLonger cs o.len → Fits o.kind values.Nothing cs o.len
operator_found cs o f l = record { class = Operators; spelled = operator f.is; short = f.short; longest = l }
