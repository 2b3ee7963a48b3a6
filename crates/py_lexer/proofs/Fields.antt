-- What is known where a formatted string is open: what is left of its body has the form, and its closing quotes stand behind it.
use Rattle.std.proofs.Common.{◌≡◌, ℕ, zero, suc, ◌+◌, ◌-◌, ◌≤◌, Bool, true, false, not, cond, eqb, nat_lt, ◌&&◌, List, [], ◌∷◌, ◌++◌, length, take, drop, Option, Some, None, Result, Ok, Err, ◌⊎◌, inl, inr, refl, sym, ap, subst, ◌∙◌, encode_utf8_all, length-append, length-drop, length-take-le, take-append-drop, take_at, arith}
use Rattle.std.specs.List.{prefix_len, list_all}
use Rattle.std.proofs.lemmas.Bool.{and_parts, eqb-true, ltb-true, false≢true}
use Rattle.std.proofs.lemmas.List.{take-append-le, drop-append-le}
use Rattle.rv_names.specs.Identifier.{is_identifier_continue}
use Rattle.unicode_normalization.specs.Forms.{is_in_form, Nfkc}
use Rattle.py_literals.specs.declared.place.Pos.{Pos}
use Rattle.py_literals.specs.declared.text.StringKind.{StringKind}
use Rattle.py_literals.specs.declared.text.Opening.{Opening}
use Rattle.py_literals.specs.declared.number.NumberValue.{NumberValue}
use Rattle.py_literals.specs.declared.number.NumberValue.TheVariants as numbers
use Rattle.py_literals.specs.Text.{opening, body_len, closes}
use Rattle.py_literals.specs.Number as literals
use Rattle.py_literals.specs.Escape.{decoded}
use Rattle.py_literals.specs.Formatted.{is_brace, is_doubled, is_field_char, is_formed, is_one_line, has_form, text_len}
use Rattle.py_literals.proofs.Bodies.{first_end}
use Rattle.py_literals.proofs.Longest.{longest_number}
use Rattle.py_lexer.specs.declared.chars.Class.{Class}
use Rattle.py_lexer.specs.declared.chars.Class.TheVariants.{White, LineEnd, Comment, Backslash, Quote, Digit, Dot, Letter, Sign}
use Rattle.py_lexer.specs.declared.operators.Operator.{Operator}
use Rattle.py_lexer.specs.declared.piece.Lexeme.{Lexeme}
use Rattle.py_lexer.specs.declared.piece.Lexeme.TheVariants.{Spelled, Refused}
use Rattle.py_lexer.specs.declared.token.Kind.{Kind}
use Rattle.py_lexer.specs.declared.token.Kind.TheVariants as kinds
use Rattle.py_lexer.specs.declared.token.Value.TheVariants as values
use Rattle.py_lexer.specs.declared.token.LexKind.TheVariants.{BadChar, FStringForm, NotNormal}
use Rattle.py_lexer.specs.declared.state.Mode.{Mode}
use Rattle.py_lexer.specs.declared.state.Mode.TheVariants as modes
use Rattle.py_lexer.specs.declared.state.State.{State}
use Rattle.py_lexer.specs.Chars.{class_of, is_white, is_line_end, is_digit}
use Rattle.py_lexer.specs.Stack.{top}
use Rattle.py_lexer.specs.Front.{Front, Found, Passed, Bad, Unclosed, Over, front_of_lexeme}
use Rattle.py_lexer.specs.Operators.{longest_operator}
use Rattle.py_lexer.specs.Words.{next_is, number, number_by, number_of, word, word_by, word_len}
use Rattle.py_lexer.specs.Strings.{quotes_len, quotes_at, unformatted, formatted, string_by, string_at, string_or_word_at}
use Rattle.py_lexer.specs.Inside.{line_end, is_opening, is_closing, bracketed, operator_by, operator, inside_by, inside}
use Rattle.py_lexer.specs.Margin.{gap_len, indent_of, white_of, is_of, margin_by, is_open, bad_dedent, indentation}
use Rattle.py_lexer.specs.Formatted.{text_by, text_of, literal_by, literal, field}
use Rattle.py_lexer.specs.Pieces.{last_block, last_line, finish, piece_by, piece}
use Rattle.py_lexer.specs.Layout as layout
use Rattle.py_lexer.specs.Layout.{Others, Spells, formatted_text, field_open, field_close, formatted_end}
use Rattle.py_lexer.proofs.WordLemmas.{front_passes}
use Rattle.py_lexer.proofs.Fits.{Lies, lies_if, LexemeLies, lies_lexeme, OperatorsFit, operators_fit}
use Rattle.py_lexer.proofs.StringFits.{closing_quotes, closing_long}
use Rattle.py_lexer.proofs.Unbraced.{is_unbraced, all_unbraced, no_continue, number_unbraced, operator_unbraced, field_other, field_quote, field_unbraced, field_no_string, formed_next, formed_end, field_left}
use Rattle.py_lexer.proofs.PieceFits.{Means, class_means, other, inside_lies, margin_lies, indentation_lies, finish_lies}

-- cs is in the text of a formatted string of this kind, or in a field of it, and `beyond` characters of it stand behind its body
pub record InString (inside : Bool) (kind : StringKind) (beyond : ℕ) (cs : List ℕ) : Type 0 where
  pub body : List ℕ
  pub end : List ℕ
  pub parts : cs ≡ body ++ end
  pub len : length end ≡ beyond
  pub closed : closes kind end ≡ true
  pub formed : is_formed inside body ≡ true

abbrev pub IsOpen : Mode → List ℕ → Type 0
IsOpen modes.LineStart cs = Unit {0}
IsOpen (modes.Indented column) cs = Unit {0}
IsOpen modes.Inside cs = Unit {0}
IsOpen (modes.Literal kind beyond) cs = InString false kind beyond cs
IsOpen (modes.Field kind beyond) cs = InString true kind beyond cs

abbrev pub Keeps : List ℕ → Front → Type 0
Keeps cs (Found n k v t) = IsOpen t.mode (drop n cs)
Keeps cs (Passed n t) = IsOpen t.mode (drop n cs)
Keeps cs (Bad k n) = Unit {0}
Keeps cs (Unclosed at) = Unit {0}
Keeps cs Over = Unit {0}

keeps_if : (cs : List ℕ) (b : Bool) (f g : Front) → (b ≡ true → Keeps cs f) → (b ≡ false → Keeps cs g) → Keeps cs (cond b f g)
keeps_if cs true f g h k = h refl
keeps_if cs false f g h k = k refl

-- the mode stays, or what it says is known
abbrev Goes : Mode → List ℕ → Front → Type 0
Goes m cs (Found n k v t) = (t.mode ≡ m) ⊎ IsOpen t.mode (drop n cs)
Goes m cs (Passed n t) = (t.mode ≡ m) ⊎ IsOpen t.mode (drop n cs)
Goes m cs (Bad k n) = Unit {0}
Goes m cs (Unclosed at) = Unit {0}
Goes m cs Over = Unit {0}

goes_if : (m : Mode) (cs : List ℕ) (b : Bool) (f g : Front) → Goes m cs f → Goes m cs g → Goes m cs (cond b f g)
goes_if m cs true f g h k = h
goes_if m cs false f g h k = k

goes_lexeme : (cs : List ℕ) (s : State) (l : Lexeme) → Goes s.mode cs (front_of_lexeme l s)
goes_lexeme cs s (Spelled n k v) = inl refl
goes_lexeme cs s (Refused k n) = tt

formed_body : (kind : StringKind) (body : List ℕ) → has_form kind body ≡ true → is_formed false body ≡ true
formed_body kind body h =
    let a = and_parts (not kind.raw) (is_one_line body && is_formed false body) h in
    let b = and_parts (is_one_line body) (is_formed false body) a.1 in
    b.1

opened_string : (kind : StringKind) (rest : List ℕ) (m : ℕ) → body_len kind rest ≡ Some m → has_form kind (take m rest) ≡ true → InString false kind (length rest - m) rest
opened_string kind rest m e h =
    let i = (first_end kind rest).some m e in
    record { body = take m rest; end = drop m rest; parts = sym (take-append-drop m rest); len = length-drop m rest; closed = i.closed; formed = formed_body kind (take m rest) h }

formatted_goes : (s : State) (cs : List ℕ) (o : Opening) (m : ℕ) (b : Bool) → body_len o.kind (drop o.len cs) ≡ Some m → has_form o.kind (take m (drop o.len cs)) ≡ b
    → Goes s.mode cs (cond b (Found o.len kinds.FStringStart values.Nothing (record s { mode = modes.Literal o.kind (length (drop o.len cs) - m) })) (Bad FStringForm (quotes_at o)))
formatted_goes s cs o m true e h = inr (opened_string o.kind (drop o.len cs) m e h)
formatted_goes s cs o m false e h = tt

string_by_goes : (s : State) (cs : List ℕ) (o : Opening) (n : Option ℕ) → body_len o.kind (drop o.len cs) ≡ n → Goes s.mode cs (string_by s o (drop o.len cs) n)
string_by_goes s cs o None e = tt
string_by_goes s cs o (Some m) e =
    let rest = drop o.len cs in
    goes_if s.mode cs o.kind.formatted (formatted s o (take m rest) (length rest - m)) (front_of_lexeme (unformatted o (take m rest)) s)
    (formatted_goes s cs o m (has_form o.kind (take m rest)) e refl)
    (goes_lexeme cs s (unformatted o (take m rest)))

string_at_goes : (s : State) (cs : List ℕ) (o : Option Opening) → Goes s.mode cs (string_at s cs o)
string_at_goes s cs None = tt
string_at_goes s cs (Some o) = string_by_goes s cs o (body_len o.kind (drop o.len cs)) refl

string_or_word_goes : (s : State) (cs : List ℕ) (o : Option Opening) → Goes s.mode cs (string_or_word_at s cs o)
string_or_word_goes s cs None = goes_lexeme cs s (word cs)
string_or_word_goes s cs (Some o) = string_by_goes s cs o (body_len o.kind (drop o.len cs)) refl

line_end_goes : (s : State) (cs : List ℕ) (brackets : List Pos) → Goes s.mode cs (line_end s brackets)
line_end_goes s cs [] = inr tt
line_end_goes s cs (at ∷ outer) = inl refl

mode_if : (s t u : State) (b : Bool) → t.mode ≡ s.mode → u.mode ≡ s.mode → (cond b t u).mode ≡ s.mode
mode_if s t u true h k = h
mode_if s t u false h k = k

bracketed_mode : (at : Pos) (s : State) (c : ℕ) → (bracketed at s c).mode ≡ s.mode
bracketed_mode at s c = mode_if s _ _ (is_opening c) refl (mode_if s _ _ (is_closing c) refl refl)

operator_goes : (at : Pos) (s : State) (c : ℕ) (cs : List ℕ) (o : Option Operator) → Goes s.mode cs (operator_by at s c o)
operator_goes at s c cs None = tt
operator_goes at s c cs (Some o) = inl (bracketed_mode at s c)

inside_by_goes : (class : Class) (at : Pos) (s : State) (c : ℕ) (cs : List ℕ) → Goes s.mode (c ∷ cs) (inside_by class at s c cs)
inside_by_goes White at s c cs = inl refl
inside_by_goes LineEnd at s c cs = line_end_goes s (c ∷ cs) s.brackets
inside_by_goes Comment at s c cs = inl refl
inside_by_goes Backslash at s c cs = goes_if s.mode (c ∷ cs) (next_is is_line_end cs) (Passed 2 s) (Bad BadChar 0) (inl refl) tt
inside_by_goes Quote at s c cs = string_at_goes s (c ∷ cs) (opening (c ∷ cs))
inside_by_goes Digit at s c cs = goes_lexeme (c ∷ cs) s (number (c ∷ cs))
inside_by_goes Dot at s c cs =
    goes_if s.mode (c ∷ cs) (next_is is_digit cs) (front_of_lexeme (number (c ∷ cs)) s) (operator at s c cs) (goes_lexeme (c ∷ cs) s (number (c ∷ cs)))
    (operator_goes at s c (c ∷ cs) (longest_operator (c ∷ cs)))
inside_by_goes Letter at s c cs = string_or_word_goes s (c ∷ cs) (opening (c ∷ cs))
inside_by_goes Sign at s c cs = operator_goes at s c (c ∷ cs) (longest_operator (c ∷ cs))

to_open : (m n : Mode) (cs : List ℕ) → m ≡ n → IsOpen n cs → IsOpen m cs
to_open m n cs e h = subst (λ (x : Mode). IsOpen x cs) (sym e) h

either : (m t : Mode) (cs : List ℕ) → m ≡ modes.Inside → (t ≡ m) ⊎ IsOpen t cs → IsOpen t cs
either m t cs e (inl h) = to_open t modes.Inside cs (h ∙ e) tt
either m t cs e (inr h) = h

goes_keeps : (m : Mode) (cs : List ℕ) (f : Front) → m ≡ modes.Inside → Goes m cs f → Keeps cs f
goes_keeps m cs (Found n k v t) e h = either m t.mode (drop n cs) e h
goes_keeps m cs (Passed n t) e h = either m t.mode (drop n cs) e h
goes_keeps m cs (Bad k n) e h = tt
goes_keeps m cs (Unclosed at) e h = tt
goes_keeps m cs Over e h = tt

inside_keeps : (at : Pos) (s : State) (c : ℕ) (cs : List ℕ) → s.mode ≡ modes.Inside → Keeps (c ∷ cs) (inside at s c cs)
inside_keeps at s c cs e = goes_keeps s.mode (c ∷ cs) (inside at s c cs) e (inside_by_goes (class_of c) at s c cs)

-- in a field

abbrev NoBrace : List ℕ → Front → Type 0
NoBrace cs (Found n k v t) = list_all is_unbraced (take n cs) ≡ true
NoBrace cs (Passed n t) = list_all is_unbraced (take n cs) ≡ true
NoBrace cs (Bad k n) = Unit {0}
NoBrace cs (Unclosed at) = Unit {0}
NoBrace cs Over = Unit {0}

no_brace_if : (cs : List ℕ) (b : Bool) (f g : Front) → NoBrace cs f → NoBrace cs g → NoBrace cs (cond b f g)
no_brace_if cs true f g h k = h
no_brace_if cs false f g h k = k

abbrev LexemeNoBrace : List ℕ → Lexeme → Type 0
LexemeNoBrace cs (Spelled n k v) = list_all is_unbraced (take n cs) ≡ true
LexemeNoBrace cs (Refused k n) = Unit {0}

lexeme_no_brace_if : (cs : List ℕ) (b : Bool) (f g : Lexeme) → LexemeNoBrace cs f → LexemeNoBrace cs g → LexemeNoBrace cs (cond b f g)
lexeme_no_brace_if cs true f g h k = h
lexeme_no_brace_if cs false f g h k = k

no_brace_lexeme : (cs : List ℕ) (s : State) (l : Lexeme) → LexemeNoBrace cs l → NoBrace cs (front_of_lexeme l s)
no_brace_lexeme cs s (Spelled n k v) h = h
no_brace_lexeme cs s (Refused k n) h = tt

number_of_no_brace : (cs : List ℕ) (n : ℕ) (v : NumberValue) → list_all is_unbraced (take n cs) ≡ true → LexemeNoBrace cs (number_of n v)
number_of_no_brace cs n (numbers.Whole x) h = h
number_of_no_brace cs n numbers.Wide h = tt
number_of_no_brace cs n numbers.Float h = h

number_by_no_brace : (cs : List ℕ) (b : Bool) → nat_lt 0 (literals.number_len cs) ≡ b → LexemeNoBrace cs (number_by cs (cond b (Some (record { len = literals.number_len cs; value = literals.number_value cs })) None))
number_by_no_brace cs true e =
    lexeme_no_brace_if cs (next_is is_identifier_continue (drop (literals.number_len cs) cs)) _ _ tt
    (number_of_no_brace cs (literals.number_len cs) (literals.number_value cs) (number_unbraced ((longest_number cs).spelled (ltb-true 0 (literals.number_len cs) e))))
number_by_no_brace cs false e = tt

number_no_brace : (cs : List ℕ) → LexemeNoBrace cs (number cs)
number_no_brace cs = number_by_no_brace cs (nat_lt 0 (literals.number_len cs)) refl

word_by_no_brace : (cs text : List ℕ) (n : ℕ) (k : Option Kind) → list_all is_unbraced (take n cs) ≡ true → LexemeNoBrace cs (word_by n text k)
word_by_no_brace cs text n (Some k) h = h
word_by_no_brace cs text n None h = lexeme_no_brace_if cs (is_in_form Nfkc text) (Spelled n kinds.Name (values.Name (encode_utf8_all text))) (Refused NotNormal 0) h tt

-- c and the characters behind it that pass
front_unbraced : (p : ℕ → Bool) (c : ℕ) (cs : List ℕ) → is_unbraced c ≡ true → p 125 ≡ false → list_all is_unbraced (take (1 + prefix_len p cs) (c ∷ cs)) ≡ true
front_unbraced p c cs h e =
    let m : 1 + prefix_len p cs ≡ suc (prefix_len p cs) = omega arith in
    let t = all_unbraced p (take (prefix_len p cs) cs) e (front_passes p cs) in
    rw (m, h, t) refl

word_no_brace : (c : ℕ) (cs : List ℕ) → is_unbraced c ≡ true → LexemeNoBrace (c ∷ cs) (word (c ∷ cs))
word_no_brace c cs h = word_by_no_brace (c ∷ cs) (take (word_len (c ∷ cs)) (c ∷ cs)) (word_len (c ∷ cs)) _ (front_unbraced is_identifier_continue c cs h no_continue)

string_or_word_no_brace : (s : State) (c : ℕ) (cs : List ℕ) (o : Option Opening) → is_unbraced c ≡ true → o ≡ None → NoBrace (c ∷ cs) (string_or_word_at s (c ∷ cs) o)
string_or_word_no_brace s c cs None h e = no_brace_lexeme (c ∷ cs) s (word (c ∷ cs)) (word_no_brace c cs h)
string_or_word_no_brace s c cs (Some o) h e = absurd (cc)

operator_front : (c : ℕ) (cs : List ℕ) (n : ℕ) (k : Kind) → is_unbraced c ≡ true → layout.operator_of (take n (c ∷ cs)) ≡ Some k → list_all is_unbraced (take n (c ∷ cs)) ≡ true
operator_front c cs zero k h e = refl
operator_front c cs (suc n) k h e = operator_unbraced c (take n cs) k h e

operator_no_brace : (at : Pos) (s : State) (c : ℕ) (cs : List ℕ) (o : Option Operator) → is_unbraced c ≡ true → OperatorsFit (c ∷ cs) o → NoBrace (c ∷ cs) (operator_by at s c o)
operator_no_brace at s c cs None h f = tt
operator_no_brace at s c cs (Some o) h f = operator_front c cs o.len o.kind h f.is

inside_by_no_brace : (class : Class) (at : Pos) (s : State) (c : ℕ) (cs : List ℕ) → Means class c → is_field_char c ≡ true → opening (c ∷ cs) ≡ None → NoBrace (c ∷ cs) (inside_by class at s c cs)
inside_by_no_brace White at s c cs m h e = front_unbraced is_white c cs (field_unbraced c h) refl
inside_by_no_brace LineEnd at s c cs m h e = absurd (field_other c 10 refl h m)
inside_by_no_brace Comment at s c cs m h e = absurd (field_other c 35 refl h m)
inside_by_no_brace Backslash at s c cs m h e = absurd (field_other c 92 refl h m)
inside_by_no_brace Quote at s c cs m h e = absurd (false≢true (sym (field_quote c h) ∙ m))
inside_by_no_brace Digit at s c cs m h e = no_brace_lexeme (c ∷ cs) s (number (c ∷ cs)) (number_no_brace (c ∷ cs))
inside_by_no_brace Dot at s c cs m h e =
    no_brace_if (c ∷ cs) (next_is is_digit cs) (front_of_lexeme (number (c ∷ cs)) s) (operator at s c cs)
    (no_brace_lexeme (c ∷ cs) s (number (c ∷ cs)) (number_no_brace (c ∷ cs)))
    (operator_no_brace at s c cs (longest_operator (c ∷ cs)) (field_unbraced c h) (operators_fit (c ∷ cs)))
inside_by_no_brace Letter at s c cs m h e = string_or_word_no_brace s c cs (opening (c ∷ cs)) (field_unbraced c h) e
inside_by_no_brace Sign at s c cs m h e = operator_no_brace at s c cs (longest_operator (c ∷ cs)) (field_unbraced c h) (operators_fit (c ∷ cs))

-- n characters of a field were read
still_open : (kind : StringKind) (beyond n : ℕ) (cs : List ℕ) → InString true kind beyond cs → list_all is_unbraced (take n cs) ≡ true → InString true kind beyond (drop n cs)
still_open kind beyond n cs h u =
    let P : List ℕ → Type 0 = λ v. list_all is_unbraced (take n v) ≡ true in
    let l = field_left h.body h.end n h.formed (subst P h.parts u) in
    record { body = l.body; end = h.end; parts = ap (λ (v : List ℕ). drop n v) h.parts ∙ l.parts; len = h.len; closed = h.closed; formed = l.formed }

field_either : (m t : Mode) (kind : StringKind) (beyond n : ℕ) (cs : List ℕ) → m ≡ modes.Field kind beyond → InString true kind beyond cs → list_all is_unbraced (take n cs) ≡ true → (t ≡ m) ⊎ IsOpen t (drop n cs) → IsOpen t (drop n cs)
field_either m t kind beyond n cs e h u (inl f) = to_open t (modes.Field kind beyond) (drop n cs) (f ∙ e) (still_open kind beyond n cs h u)
field_either m t kind beyond n cs e h u (inr f) = f

field_goes_keeps : (m : Mode) (kind : StringKind) (beyond : ℕ) (cs : List ℕ) (f : Front) → m ≡ modes.Field kind beyond → InString true kind beyond cs → NoBrace cs f → Goes m cs f → Keeps cs f
field_goes_keeps m kind beyond cs (Found n k v t) e h u g = field_either m t.mode kind beyond n cs e h u g
field_goes_keeps m kind beyond cs (Passed n t) e h u g = field_either m t.mode kind beyond n cs e h u g
field_goes_keeps m kind beyond cs (Bad k n) e h u g = tt
field_goes_keeps m kind beyond cs (Unclosed at) e h u g = tt
field_goes_keeps m kind beyond cs Over e h u g = tt

-- what the body of a field that is open begins with
record FieldFront (kind : StringKind) (beyond c : ℕ) (cs : List ℕ) : Type 0 where
  ended : eqb c 125 ≡ true → InString false kind beyond cs
  inner : eqb c 125 ≡ false → (is_field_char c ≡ true) × (opening (c ∷ cs) ≡ None)

field_front_by : (kind : StringKind) (beyond c : ℕ) (cs body end : List ℕ) → c ∷ cs ≡ body ++ end → length end ≡ beyond → closes kind end ≡ true → is_formed true body ≡ true → FieldFront kind beyond c cs
field_front_by kind beyond c cs [] end e l q h = absurd (false≢true h)
field_front_by kind beyond c cs (x ∷ xs) end e l q h =
    let first : c ≡ x = cc in
    let more : cs ≡ xs ++ end = cc in
    let same : eqb c 125 ≡ eqb x 125 = ap (λ (v : ℕ). eqb v 125) first in
    record {
      ended = λ t. record { body = xs; end = end; parts = more; len = l; closed = q; formed = formed_end x xs (sym same ∙ t) h };
      inner = λ t.
          let g = formed_next x xs (sym same ∙ t) h in
          (ap is_field_char first ∙ g.0, ap opening e ∙ field_no_string x xs end g.0 g.1);
    }

field_front : (kind : StringKind) (beyond c : ℕ) (cs : List ℕ) → InString true kind beyond (c ∷ cs) → FieldFront kind beyond c cs
field_front kind beyond c cs h = field_front_by kind beyond c cs h.body h.end h.parts h.len h.closed h.formed

field_keeps : (at : Pos) (s : State) (kind : StringKind) (beyond c : ℕ) (cs : List ℕ) → s.mode ≡ modes.Field kind beyond → InString true kind beyond (c ∷ cs) → Keeps (c ∷ cs) (field at s kind beyond c cs)
field_keeps at s kind beyond c cs e h =
    let f = field_front kind beyond c cs h in
    keeps_if (c ∷ cs) (eqb c 125) _ (inside at s c cs) (λ t. f.ended t)
    (λ t.
    let g = f.inner t in
    field_goes_keeps s.mode kind beyond (c ∷ cs) (inside at s c cs) e h
    (inside_by_no_brace (class_of c) at s c cs (class_means c) g.0 g.1) (inside_by_goes (class_of c) at s c cs))

field_lies : (at : Pos) (s : State) (kind : StringKind) (beyond c : ℕ) (cs : List ℕ) → Lies (c ∷ cs) (field at s kind beyond c cs)
field_lies at s kind beyond c cs =
    lies_if (c ∷ cs) (eqb c 125) _ (inside at s c cs)
    (λ t. let e = eqb-true c 125 t in other kinds.FieldClose (c ∷ cs) 1 (omega arith) (rw e field_close))
    (λ t. inside_lies at s c cs)

-- in the text

text_within_by : (c d : ℕ) (ds : List ℕ) (a b : Bool) → text_len ds ≤ length ds → text_len (d ∷ ds) ≤ length (d ∷ ds) → cond a (2 + text_len ds) (cond b 0 (1 + text_len (d ∷ ds))) ≤ length (c ∷ d ∷ ds)
text_within_by c d ds true b h g = omega arith
text_within_by c d ds false true h g = omega arith
text_within_by c d ds false false h g = omega arith

one_within : (c : ℕ) (b : Bool) → cond b 0 1 ≤ length (c ∷ [])
one_within c true = omega arith
one_within c false = omega arith

text_within : (body : List ℕ) → text_len body ≤ length body
text_within [] = omega arith
text_within (c ∷ []) = one_within c (eqb c 123)
text_within (c ∷ d ∷ ds) = text_within_by c d ds (is_doubled c (d ∷ ds)) (eqb c 123) (text_within ds) (text_within (d ∷ ds))

text_left_by : (c d : ℕ) (ds : List ℕ) (a b : Bool) → is_doubled c (d ∷ ds) ≡ a → eqb c 123 ≡ b → (is_formed false ds ≡ true → is_formed false (drop (text_len ds) ds) ≡ true)
    → (is_formed false (d ∷ ds) ≡ true → is_formed false (drop (text_len (d ∷ ds)) (d ∷ ds)) ≡ true) → is_formed false (c ∷ d ∷ ds) ≡ true
    → is_formed false (drop (cond a (2 + text_len ds) (cond b 0 (1 + text_len (d ∷ ds)))) (c ∷ d ∷ ds)) ≡ true
text_left_by c d ds true b e f h g k =
    let same : is_formed false (c ∷ d ∷ ds) ≡ is_formed false ds = rw e refl in
    let m : 2 + text_len ds ≡ suc (suc (text_len ds)) = omega arith in
    rw m (h (sym same ∙ k))
text_left_by c d ds false true e f h g k = k
text_left_by c d ds false false e f h g k =
    let same : is_formed false (c ∷ d ∷ ds) ≡ (not (eqb c 125) && is_formed false (d ∷ ds)) = rw (e, f) refl in
    let a = and_parts (not (eqb c 125)) (is_formed false (d ∷ ds)) (sym same ∙ k) in
    let m : 1 + text_len (d ∷ ds) ≡ suc (text_len (d ∷ ds)) = omega arith in
    rw m (g a.1)

one_left : (c : ℕ) (b : Bool) → is_formed false (c ∷ []) ≡ true → is_formed false (drop (cond b 0 1) (c ∷ [])) ≡ true
one_left c true h = h
one_left c false h = refl

-- behind a text the rest of the body has the form
text_left : (body : List ℕ) → is_formed false body ≡ true → is_formed false (drop (text_len body) body) ≡ true
text_left [] h = refl
text_left (c ∷ []) h = one_left c (eqb c 123) h
text_left (c ∷ d ∷ ds) h = text_left_by c d ds (is_doubled c (d ∷ ds)) (eqb c 123) refl refl (λ g. text_left ds g) (λ g. text_left (d ∷ ds) g) h

begins_by : (c d : ℕ) (ds : List ℕ) (a b : Bool) → is_doubled c (d ∷ ds) ≡ a → eqb c 123 ≡ b → cond a (2 + text_len ds) (cond b 0 (1 + text_len (d ∷ ds))) ≡ 0 → is_formed false (c ∷ d ∷ ds) ≡ true → (c ≡ 123) × (is_formed true (d ∷ ds) ≡ true)
begins_by c d ds true b e f z h = absurd (omega arith)
begins_by c d ds false true e f z h =
    let same : is_formed false (c ∷ d ∷ ds) ≡ (not (eqb c 125) && is_formed true (d ∷ ds)) = rw (e, f) refl in
    let a = and_parts (not (eqb c 125)) (is_formed true (d ∷ ds)) (sym same ∙ h) in
    (eqb-true c 123 f, a.1)
begins_by c d ds false false e f z h = absurd (omega arith)

lone_brace : (c : ℕ) (b : Bool) → eqb c 123 ≡ b → cond {A = ℕ} b 0 1 ≡ 0 → is_formed false (c ∷ []) ≡ true → ⊥
lone_brace c true e z h =
    let same : not (is_brace c) ≡ not (is_brace 123) = ap (λ (v : ℕ). not (is_brace v)) (eqb-true c 123 e) in
    false≢true (sym same ∙ h)
lone_brace c false e z h = omega arith

-- where no text stands the `{` of a field does
field_begins : (c : ℕ) (bs : List ℕ) → text_len (c ∷ bs) ≡ 0 → is_formed false (c ∷ bs) ≡ true → (c ≡ 123) × (is_formed true bs ≡ true)
field_begins c [] z h = absurd (lone_brace c (eqb c 123) refl z h)
field_begins c (d ∷ ds) z h = begins_by c d ds (is_doubled c (d ∷ ds)) (eqb c 123) refl refl z h

text_by_lies : (cs text : List ℕ) (kind : StringKind) (r : Result (List ℕ) ℕ) → take (length text) cs ≡ text → length text ≤ length cs → decoded kind text ≡ r → LexemeLies cs (text_by (length text) r)
text_by_lies cs text kind (Err bad) e w f = tt
text_by_lies cs text kind (Ok value) e w f =
    let h : Spells (drop (length text) cs) Others kinds.FStringText (values.Text (encode_utf8_all value)) text = formatted_text kind f in
    record { class = Others; spelled = subst (λ (x : List ℕ). Spells (drop (length text) cs) Others kinds.FStringText (values.Text (encode_utf8_all value)) x) (sym e) h; short = w; longest = tt }

text_by_keeps : (s : State) (cs : List ℕ) (n : ℕ) (r : Result (List ℕ) ℕ) → IsOpen s.mode (drop n cs) → Keeps cs (front_of_lexeme (text_by n r) s)
text_by_keeps s cs n (Err bad) h = tt
text_by_keeps s cs n (Ok value) h = h

text_or_field_lies : (s : State) (kind : StringKind) (beyond c : ℕ) (cs bs end : List ℕ) (b : Bool) → eqb (text_len (c ∷ bs)) 0 ≡ b → cs ≡ c ∷ (bs ++ end) → is_formed false (c ∷ bs) ≡ true
    → Lies cs (cond b (Found 1 kinds.FieldOpen values.Nothing (record s { mode = modes.Field kind beyond })) (front_of_lexeme (text_of kind (take (text_len (c ∷ bs)) (c ∷ bs))) s))
text_or_field_lies s kind beyond c cs bs end true e p h =
    let f = field_begins c bs (eqb-true (text_len (c ∷ bs)) 0 e) h in
    let long : 1 ≤ length cs = omega (arith, ap length p) in
    let front : take 1 cs ≡ 123 ∷ [] = ap (λ (v : List ℕ). take 1 v) p ∙ ap (λ (v : ℕ). v ∷ []) f.0 in
    other kinds.FieldOpen cs 1 long (subst (λ (x : List ℕ). Spells (drop 1 cs) Others kinds.FieldOpen values.Nothing x) (sym front) field_open)
text_or_field_lies s kind beyond c cs bs end false e p h =
    let n = text_len (c ∷ bs) in
    let text = take n (c ∷ bs) in
    let w : n ≤ length (c ∷ bs) = text_within (c ∷ bs) in
    let len : length text ≡ n = length-take-le n (c ∷ bs) w in
    let front : take (length text) cs ≡ text = ap (λ (v : ℕ). take v cs) len ∙ ap (λ (v : List ℕ). take n v) p ∙ take-append-le n (c ∷ bs) end w in
    let short : length text ≤ length cs = omega (arith, ap length p, length-append bs end) in
    lies_lexeme cs s (text_of kind text) (text_by_lies cs text kind (decoded kind text) front short refl)

text_or_field_keeps : (s : State) (kind : StringKind) (beyond c : ℕ) (cs bs end : List ℕ) (b : Bool) → eqb (text_len (c ∷ bs)) 0 ≡ b → cs ≡ c ∷ (bs ++ end) → is_formed false (c ∷ bs) ≡ true
    → s.mode ≡ modes.Literal kind beyond → length end ≡ beyond → closes kind end ≡ true
    → Keeps cs (cond b (Found 1 kinds.FieldOpen values.Nothing (record s { mode = modes.Field kind beyond })) (front_of_lexeme (text_of kind (take (text_len (c ∷ bs)) (c ∷ bs))) s))
text_or_field_keeps s kind beyond c cs bs end true e p h m l q =
    let f = field_begins c bs (eqb-true (text_len (c ∷ bs)) 0 e) h in
    record { body = bs; end = end; parts = ap (λ (v : List ℕ). drop 1 v) p; len = l; closed = q; formed = f.1 }
text_or_field_keeps s kind beyond c cs bs end false e p h m l q =
    let n = text_len (c ∷ bs) in
    let text = take n (c ∷ bs) in
    let w : n ≤ length (c ∷ bs) = text_within (c ∷ bs) in
    let len : length text ≡ n = length-take-le n (c ∷ bs) w in
    let behind : drop (length text) cs ≡ drop n (c ∷ bs) ++ end = ap (λ (v : ℕ). drop v cs) len ∙ ap (λ (v : List ℕ). drop n v) p ∙ drop-append-le n (c ∷ bs) end w in
    let still : InString false kind beyond (drop (length text) cs) =
    record { body = drop n (c ∷ bs); end = end; parts = behind; len = l; closed = q; formed = text_left (c ∷ bs) h } in
    text_by_keeps s cs (length text) (decoded kind text) (to_open s.mode (modes.Literal kind beyond) (drop (length text) cs) m still)

literal_by_lies : (s : State) (kind : StringKind) (beyond : ℕ) (cs body end : List ℕ) → cs ≡ body ++ end → closes kind end ≡ true → is_formed false body ≡ true → Lies cs (literal_by s kind beyond body)
literal_by_lies s kind beyond cs [] end p q h =
    let front : take (quotes_len kind) cs ≡ layout.quotes_of kind = ap (λ (v : List ℕ). take (quotes_len kind) v) p ∙ closing_quotes kind end q in
    let long : quotes_len kind ≤ length cs = omega (arith, ap length p, closing_long kind end q) in
    other kinds.FStringEnd cs (quotes_len kind) long (subst (λ (x : List ℕ). Spells (drop (quotes_len kind) cs) Others kinds.FStringEnd values.Nothing x) (sym front) (formatted_end kind))
literal_by_lies s kind beyond cs (c ∷ bs) end p q h = text_or_field_lies s kind beyond c cs bs end (eqb (text_len (c ∷ bs)) 0) refl p h

literal_by_keeps : (s : State) (kind : StringKind) (beyond : ℕ) (cs body end : List ℕ) → s.mode ≡ modes.Literal kind beyond → cs ≡ body ++ end → length end ≡ beyond → closes kind end ≡ true → is_formed false body ≡ true → Keeps cs (literal_by s kind beyond body)
literal_by_keeps s kind beyond cs [] end m p l q h = tt
literal_by_keeps s kind beyond cs (c ∷ bs) end m p l q h = text_or_field_keeps s kind beyond c cs bs end (eqb (text_len (c ∷ bs)) 0) refl p h m l q

body_is : (cs body end : List ℕ) (beyond : ℕ) → cs ≡ body ++ end → length end ≡ beyond → take (length cs - beyond) cs ≡ body
body_is cs body end beyond p l =
    let len : length body ≡ length cs - beyond = omega (arith, ap length p, length-append body end) in
    ap (λ (v : List ℕ). take (length cs - beyond) v) p ∙ take_at body end (length cs - beyond) len

literal_lies : (s : State) (kind : StringKind) (beyond : ℕ) (cs : List ℕ) → InString false kind beyond cs → Lies cs (literal s kind beyond cs)
literal_lies s kind beyond cs h =
    subst (λ (v : List ℕ). Lies cs (literal_by s kind beyond v)) (sym (body_is cs h.body h.end beyond h.parts h.len))
    (literal_by_lies s kind beyond cs h.body h.end h.parts h.closed h.formed)

literal_keeps : (s : State) (kind : StringKind) (beyond : ℕ) (cs : List ℕ) → s.mode ≡ modes.Literal kind beyond → InString false kind beyond cs → Keeps cs (literal s kind beyond cs)
literal_keeps s kind beyond cs m h =
    subst (λ (v : List ℕ). Keeps cs (literal_by s kind beyond v)) (sym (body_is cs h.body h.end beyond h.parts h.len))
    (literal_by_keeps s kind beyond cs h.body h.end m h.parts h.len h.closed h.formed)

-- where a logical line begins

margin_by_keeps : (s : State) (n : ℕ) (cs rest : List ℕ) → s.mode ≡ modes.LineStart → Keeps cs (margin_by s n cs rest)
margin_by_keeps s n cs [] e = to_open s.mode modes.LineStart (drop n cs) e tt
margin_by_keeps s n cs (c ∷ rest) e =
    keeps_if cs (is_line_end c) _ _ (λ t. to_open s.mode modes.LineStart _ e tt)
    (λ t. keeps_if cs (eqb c 35) _ _ (λ u. to_open s.mode modes.LineStart _ e tt)
    (λ u. keeps_if cs (nat_lt (prefix_len (is_of (white_of s.white (indent_of cs))) (indent_of cs)) (length (indent_of cs))) _ _ (λ w. tt) (λ w. tt)))

bad_dedent_keeps : (cs : List ℕ) (f : Front) → Keeps cs (bad_dedent f)
bad_dedent_keeps cs (Bad BadChar n) = tt
bad_dedent_keeps cs _ = tt

indentation_keeps : (at : Pos) (s : State) (column c : ℕ) (cs : List ℕ) → s.mode ≡ modes.Indented column → Keeps (c ∷ cs) (indentation at s column c cs)
indentation_keeps at s column c cs e =
    keeps_if (c ∷ cs) (eqb column (top s.blocks)) _ _ (λ t. tt)
    (λ t. keeps_if (c ∷ cs) (nat_lt (top s.blocks) column) _ _ (λ u. tt)
    (λ u. keeps_if (c ∷ cs) (is_open s.blocks column) _ _ (λ w. to_open s.mode (modes.Indented column) _ e tt)
    (λ w. bad_dedent_keeps (c ∷ cs) (inside at s c cs))))

-- the end of the text

last_block_keeps : (s : State) (blocks : List ℕ) → s.mode ≡ modes.LineStart → Keeps [] (last_block s blocks)
last_block_keeps s [] e = tt
last_block_keeps s (column ∷ outer) e = to_open s.mode modes.LineStart [] e tt

last_line_keeps : (s : State) (mode : Mode) → s.mode ≡ mode → Keeps [] (last_line s mode)
last_line_keeps s modes.LineStart e = last_block_keeps s s.blocks e
last_line_keeps s _ e = tt

finish_keeps : (s : State) (brackets : List Pos) → Keeps [] (finish s brackets)
finish_keeps s [] = last_line_keeps s s.mode refl
finish_keeps s (at ∷ outer) = tt

-- each piece

piece_by_lies : (mode : Mode) (at : Pos) (s : State) (c : ℕ) (cs : List ℕ) → IsOpen mode (c ∷ cs) → Lies (c ∷ cs) (piece_by mode at s c cs)
piece_by_lies modes.LineStart at s c cs h = margin_lies s (c ∷ cs)
piece_by_lies (modes.Indented column) at s c cs h = indentation_lies at s column c cs
piece_by_lies modes.Inside at s c cs h = inside_lies at s c cs
piece_by_lies (modes.Literal kind beyond) at s c cs h = literal_lies s kind beyond (c ∷ cs) h
piece_by_lies (modes.Field kind beyond) at s c cs h = field_lies at s kind beyond c cs

pub piece_lies : (at : Pos) (s : State) (cs : List ℕ) → IsOpen s.mode cs → Lies cs (piece at s cs)
piece_lies at s [] h = finish_lies s s.brackets
piece_lies at s (c ∷ cs) h = piece_by_lies s.mode at s c cs h

piece_by_keeps : (mode : Mode) (at : Pos) (s : State) (c : ℕ) (cs : List ℕ) → s.mode ≡ mode → IsOpen mode (c ∷ cs) → Keeps (c ∷ cs) (piece_by mode at s c cs)
piece_by_keeps modes.LineStart at s c cs e h = margin_by_keeps s (gap_len (c ∷ cs)) (c ∷ cs) (drop (gap_len (c ∷ cs)) (c ∷ cs)) e
piece_by_keeps (modes.Indented column) at s c cs e h = indentation_keeps at s column c cs e
piece_by_keeps modes.Inside at s c cs e h = inside_keeps at s c cs e
piece_by_keeps (modes.Literal kind beyond) at s c cs e h = literal_keeps s kind beyond (c ∷ cs) e h
piece_by_keeps (modes.Field kind beyond) at s c cs e h = field_keeps at s kind beyond c cs e h

pub piece_keeps : (at : Pos) (s : State) (cs : List ℕ) → IsOpen s.mode cs → Keeps cs (piece at s cs)
piece_keeps at s [] h = finish_keeps s s.brackets
piece_keeps at s (c ∷ cs) h = piece_by_keeps s.mode at s c cs refl h
