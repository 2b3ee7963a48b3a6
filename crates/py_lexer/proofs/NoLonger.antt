-- No longer front of a text is a legal token: by the first character, a longer one would be of the same class.
use Rattle.std.proofs.Common.{◌≡◌, ◌⊎◌, ℕ, zero, suc, ◌+◌, ◌<◌, ◌≤◌, Bool, true, false, cond, eqb, List, [], ◌∷◌, length, take, drop, Some, None, inl, inr, refl, sym, ap, ◌∙◌, arith}
use Rattle.std.specs.Char.{is_ascii_alphabetic}
use Rattle.std.proofs.lemmas.Bool.{eqb-true, eqb-false, false≢true, false_from_ne_true}
use Rattle.rv_names.specs.Identifier.{is_spelled_as_identifier, is_identifier_start}
use Rattle.py_literals.specs.declared.text.StringKind.{StringKind}
use Rattle.py_literals.specs.declared.text.Opening.{Opening}
use Rattle.py_literals.specs.Text.{is_quote, opening, body_len}
use Rattle.py_literals.specs.Grammar.{IsNumber}
use Rattle.py_literals.specs.Number as literals
use Rattle.py_lexer.specs.declared.chars.Class.{Class}
use Rattle.py_lexer.specs.declared.chars.Class.TheVariants.{White, LineEnd, Comment, Backslash, Quote, Digit, Dot, Letter, Sign}
use Rattle.py_lexer.specs.declared.operators.Operator.{Operator}
use Rattle.py_lexer.specs.Chars.{class_of, is_white, is_line_end, is_digit}
use Rattle.py_lexer.specs.Words.{next_is, word_len}
use Rattle.py_lexer.specs.Strings.{quotes_len}
use Rattle.py_lexer.specs.Layout.{operator_of, IsString, IsLegal, a_word, a_number, a_string, an_operator, HasNoLonger}
use Rattle.py_lexer.proofs.Fits.{word_longest, number_longest, OperatorFits}
use Rattle.py_lexer.proofs.StringFits.{opens_in, string_longest}
use Rattle.py_lexer.proofs.Starts.{letter_starts, small_no_letter, digit_small, digit_no_start, quote_no_start, dot_no_start, quote_no_digit, word_begins, number_begins, string_begins, no_opening_front, quoted_no_word, is_sign_start, sign_no_start, sign_others, operator_begins, point_no_operator}

-- what a character's class says of it, and what those before it don't
abbrev pub Says : Class → ℕ → Type 0
Says White c = Unit {0}
Says LineEnd c = Unit {0}
Says Comment c = Unit {0}
Says Backslash c = Unit {0}
Says Quote c = is_quote c ≡ true
Says Digit c = is_digit c ≡ true
Says Dot c = c ≡ 46
Says Letter c = (is_identifier_start c ≡ true) × (is_quote c ≡ false) × (is_digit c ≡ false) × (eqb c 46 ≡ false)
Says Sign c = (is_identifier_start c ≡ false) × (is_quote c ≡ false) × (is_digit c ≡ false) × (eqb c 46 ≡ false)

says_if : (c : ℕ) (b : Bool) (x y : Class) → (b ≡ true → Says x c) → (b ≡ false → Says y c) → Says (cond b x y) c
says_if c true x y h k = h refl
says_if c false x y h k = k refl

pub class_says : (c : ℕ) → Says (class_of c) c
class_says c =
    says_if c (is_white c) White _ (λ t. tt)
    (λ t. says_if c (is_line_end c) LineEnd _ (λ t. tt)
    (λ t. says_if c (eqb c 35) Comment _ (λ t. tt)
    (λ t. says_if c (eqb c 92) Backslash _ (λ t. tt)
    (λ t. says_if c (is_quote c) Quote _ (λ t. t)
    (λ q. says_if c (is_digit c) Digit _ (λ t. t)
    (λ d. says_if c (eqb c 46) Dot _ (λ t. eqb-true c 46 t)
    (λ p. says_if c (is_identifier_start c) Letter Sign (λ t. (t, q, d, p)) (λ t. (t, q, d, p)))))))))

no_longer : (cs : List ℕ) (n : ℕ) → ((m : ℕ) → n < m → m ≤ length cs → is_spelled_as_identifier (take m cs) ≡ true → ⊥) → ((m : ℕ) → n < m → m ≤ length cs → IsNumber (take m cs) → ⊥)
    → ((m : ℕ) → n < m → m ≤ length cs → IsString (take m cs) → ⊥) → ((m : ℕ) → n < m → m ≤ length cs → (operator_of (take m cs) ≡ None → ⊥) → ⊥) → (m : ℕ) → n < m → m ≤ length cs → IsLegal (take m cs) → ⊥
no_longer cs n w x y z m a b (a_word h) = w m a b h
no_longer cs n w x y z m a b (a_number h) = x m a b h
no_longer cs n w x y z m a b (a_string h) = y m a b h
no_longer cs n w x y z m a b (an_operator h) = z m a b h

-- fronts that aren't of a class, by their first character

not_word : (c : ℕ) (cs : List ℕ) (m : ℕ) → is_identifier_start c ≡ false → is_spelled_as_identifier (take m (c ∷ cs)) ≡ true → ⊥
not_word c cs zero e h = false≢true h
not_word c cs (suc i) e h = false≢true (sym e ∙ word_begins c (take i cs) h)

next_front : (cs : List ℕ) (i : ℕ) → next_is is_digit (take i cs) ≡ true → next_is is_digit cs ≡ true
next_front [] zero h = h
next_front [] (suc i) h = h
next_front (d ∷ ds) zero h = absurd (false≢true h)
next_front (d ∷ ds) (suc i) h = h

not_number : (c : ℕ) (cs : List ℕ) (m : ℕ) → is_digit c ≡ false → (c ≡ 46 → next_is is_digit cs ≡ false) → IsNumber (take m (c ∷ cs)) → ⊥
not_number c cs zero e f h = number_begins h
not_number c cs (suc i) e f h =
    elim (number_begins h) [
      | inl t ↦ false≢true (sym e ∙ t)
      | inr p ↦ false≢true (sym (f p.0) ∙ next_front cs i p.1)
    ]

not_string : (c : ℕ) (cs : List ℕ) (m : ℕ) → is_quote c ≡ false → is_ascii_alphabetic c ≡ false → IsString (take m (c ∷ cs)) → ⊥
not_string c cs zero e f h = let z = h.is.begins in cc
not_string c cs (suc i) e f h =
    elim (string_begins c (take i cs) h.opening_of h.is.begins) [
      | inl t ↦ false≢true (sym e ∙ t)
      | inr t ↦ false≢true (sym f ∙ t)
    ]

not_string_front : (cs : List ℕ) (m : ℕ) → opening cs ≡ None → IsString (take m cs) → ⊥
not_string_front cs m e h =
    let z = no_opening_front cs m e in
    let y = h.is.begins in
    cc

not_operator : (c : ℕ) (cs : List ℕ) (m : ℕ) → (is_sign_start c ≡ true → ⊥) → (operator_of (take m (c ∷ cs)) ≡ None → ⊥) → ⊥
not_operator c cs zero e h = h refl
not_operator c cs (suc i) e h = e (operator_begins c (take i cs) h)

-- words

letter_no_sign : (c : ℕ) → is_identifier_start c ≡ true → is_sign_start c ≡ true → ⊥
letter_no_sign c t h = false≢true (sym (sign_no_start c h) ∙ t)

pub word_no_longer : (c : ℕ) (cs : List ℕ) → Says Letter c → opening (c ∷ cs) ≡ None → HasNoLonger (c ∷ cs) (word_len (c ∷ cs))
word_no_longer c cs h e =
    no_longer (c ∷ cs) (word_len (c ∷ cs)) (word_longest c cs)
    (λ m a b g. not_number c cs m h.2 (λ p. absurd (eqb-false c 46 h.3 p)) g)
    (λ m a b g. not_string_front (c ∷ cs) m e g)
    (λ m a b g. not_operator c cs m (letter_no_sign c h.0) g)

-- numbers

digit_no_quote : (c : ℕ) → is_digit c ≡ true → is_quote c ≡ false
digit_no_quote c t = false_from_ne_true (is_quote c) (λ u. quote_no_digit c u t)

digit_no_letter : (c : ℕ) → is_digit c ≡ true → is_ascii_alphabetic c ≡ false
digit_no_letter c t = let p = digit_small c t in small_no_letter c (omega (arith, p.1))

pub digits_no_longer : (c : ℕ) (cs : List ℕ) → is_digit c ≡ true → HasNoLonger (c ∷ cs) (literals.number_len (c ∷ cs))
digits_no_longer c cs t =
    no_longer (c ∷ cs) (literals.number_len (c ∷ cs))
    (λ m a b g. not_word c cs m (digit_no_start c t) g)
    (number_longest (c ∷ cs))
    (λ m a b g. not_string c cs m (digit_no_quote c t) (digit_no_letter c t) g)
    (λ m a b g. not_operator c cs m (λ s. let o = sign_others c s in false≢true (sym o.0 ∙ t)) g)

point_operator : (c : ℕ) (cs : List ℕ) (m : ℕ) → c ≡ 46 → next_is is_digit cs ≡ true → 1 < m → (operator_of (take m (c ∷ cs)) ≡ None → ⊥) → ⊥
point_operator c [] m e t l h = false≢true t
point_operator c (d ∷ ds) zero e t l h = omega arith
point_operator c (d ∷ ds) (suc zero) e t l h = omega arith
point_operator c (d ∷ ds) (suc (suc i)) e t l h = h (ap (λ (v : ℕ). operator_of (v ∷ d ∷ take i ds)) e ∙ point_no_operator d (take i ds) t)

pub point_no_longer : (c : ℕ) (cs : List ℕ) → c ≡ 46 → next_is is_digit cs ≡ true → 0 < literals.number_len (c ∷ cs) → HasNoLonger (c ∷ cs) (literals.number_len (c ∷ cs))
point_no_longer c cs e t some =
    no_longer (c ∷ cs) (literals.number_len (c ∷ cs))
    (λ m a b g. not_word c cs m (ap is_identifier_start e ∙ dot_no_start) g)
    (number_longest (c ∷ cs))
    (λ m a b g. not_string c cs m (ap is_quote e) (ap is_ascii_alphabetic e) g)
    (λ m a b g. point_operator c cs m e t (omega arith) g)

-- operators

operator_no_longer : (cs : List ℕ) (o : Operator) → OperatorFits cs o → (m : ℕ) → o.len < m → m ≤ length cs → (operator_of (take m cs) ≡ None → ⊥) → ⊥
operator_no_longer cs o f m a b h = h (f.longest m a b)

pub lone_point_no_longer : (c : ℕ) (cs : List ℕ) (o : Operator) → c ≡ 46 → next_is is_digit cs ≡ false → OperatorFits (c ∷ cs) o → HasNoLonger (c ∷ cs) o.len
lone_point_no_longer c cs o e t f =
    no_longer (c ∷ cs) o.len
    (λ m a b g. not_word c cs m (ap is_identifier_start e ∙ dot_no_start) g)
    (λ m a b g. not_number c cs m (ap is_digit e) (λ p. t) g)
    (λ m a b g. not_string c cs m (ap is_quote e) (ap is_ascii_alphabetic e) g)
    (operator_no_longer (c ∷ cs) o f)

pub sign_no_longer : (c : ℕ) (cs : List ℕ) (o : Operator) → Says Sign c → OperatorFits (c ∷ cs) o → HasNoLonger (c ∷ cs) o.len
sign_no_longer c cs o h f =
    no_longer (c ∷ cs) o.len
    (λ m a b g. not_word c cs m h.0 g)
    (λ m a b g. not_number c cs m h.2 (λ p. absurd (eqb-false c 46 h.3 p)) g)
    (λ m a b g. not_string c cs m h.1 (false_from_ne_true (is_ascii_alphabetic c) (λ u. false≢true (sym h.0 ∙ letter_starts c u))) g)
    (operator_no_longer (c ∷ cs) o f)

-- strings

quotes_by : (t : Bool) → 1 ≤ cond t 3 1
quotes_by true = omega arith
quotes_by false = omega arith

quotes_long : (kind : StringKind) → 1 ≤ quotes_len kind
quotes_long kind = quotes_by kind.triple

quote_no_dot : (c : ℕ) → is_quote c ≡ true → c ≡ 46 → ⊥
quote_no_dot c t e = false≢true (sym (ap is_quote e) ∙ t)

-- where a quote or a prefix stands
abbrev pub BeginsString : ℕ → Type 0
BeginsString c = (is_quote c ≡ true) ⊎ Says Letter c

pub string_no_longer : (c : ℕ) (cs : List ℕ) (o : Opening) (n : ℕ) → BeginsString c → opening (c ∷ cs) ≡ Some o → body_len o.kind (drop o.len (c ∷ cs)) ≡ Some n
    → HasNoLonger (c ∷ cs) (o.len + (n + quotes_len o.kind))
string_no_longer c cs o n (inl t) e f =
    no_longer (c ∷ cs) (o.len + (n + quotes_len o.kind))
    (λ m a b g. not_word c cs m (quote_no_start c t) g)
    (λ m a b g. not_number c cs m (false_from_ne_true (is_digit c) (quote_no_digit c t)) (λ p. absurd (quote_no_dot c t p)) g)
    (string_longest (c ∷ cs) o n e f)
    (λ m a b g. not_operator c cs m (λ s. let r = sign_others c s in false≢true (sym r.1 ∙ t)) g)
string_no_longer c cs o n (inr h) e f =
    let opens = opens_in (c ∷ cs) o e in
    no_longer (c ∷ cs) (o.len + (n + quotes_len o.kind))
    (λ m a b g. quoted_no_word c cs m h.1 (λ z. cc (z, e)) (omega (arith, opens.long, quotes_long o.kind)) g)
    (λ m a b g. not_number c cs m h.2 (λ p. absurd (eqb-false c 46 h.3 p)) g)
    (string_longest (c ∷ cs) o n e f)
    (λ m a b g. not_operator c cs m (letter_no_sign c h.0) g)
